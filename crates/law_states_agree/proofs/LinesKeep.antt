-- Memory keeps its addresses in order over lines.
use Rattle.std.proofs.Common.{◌≡◌, ℕ, List, [], ◌∷◌, Option, Some, None, refl, sym, ◌∙◌, ap, subst}
use Rattle.std.specs.Prelude.{option_map, option_and_then}
use Rattle.bits64.specs.declared.Width.{Width}
use Rattle.bits64.specs.Words.{bytes_of}
use Rattle.rtx_tree.specs.declared.machine.World.{World}
use Rattle.rtx_tree.specs.declared.memories.MemByte.{MemByte}
use Rattle.rtx_tree.specs.Memories.{IsOrdered}
use Rattle.run_memory.specs.RunMemory.{load, store, with_number}
use Rattle.run_memory.specs.Symbols.{symbol_address}
use Rattle.rv_text.specs.Lines.{action_of}
use Rattle.rv_text.specs.declared.action.Action.{Action}
use Rattle.rv_text.specs.declared.action.Action.TheVariants as action
use Rattle.rv_text.specs.declared.line.Line.{Line}
use Rattle.rv_line.specs.Step.{register, source_value, place_of, of_both, set_rd, set_memory, loaded, computed, act, step_as, step}
use Rattle.rv_line.specs.declared.state.RvState.{RvState}
use Rattle.rv_line.specs.declared.state.LineEnd.{LineEnd}
use Rattle.rv_line.specs.declared.state.LineEnd.TheVariants as ends
use Rattle.law_window_runs.specs.Lines.{LinesCome, come_to, Goes, Calls, Returns, Falls, line_goes_on, lines_come}
use Rattle.law_states_agree.proofs.Windows.{number_ordered}

set_ordered : (m : RvState) (line : Line) (o : Option ℕ) → IsOrdered m.memory → IsOrdered (set_rd m line o).1.memory
set_ordered m line None ordered = ordered
set_ordered m line (Some value) ordered = ordered

store_ordered : (w : Width) (memory : List MemByte) (at number : ℕ) (old : Option ℕ) (m : RvState) → IsOrdered memory → IsOrdered m.memory →
    IsOrdered (set_memory m (option_map (λ _. with_number memory at (bytes_of w) number) old)).1.memory
store_ordered w memory at number None m ordered here = here
store_ordered w memory at number (Some old) m ordered here = number_ordered memory at (bytes_of w) number ordered

both_ordered : (w : Width) (m : RvState) (place value : Option ℕ) → IsOrdered m.memory →
    IsOrdered (set_memory m (option_and_then (λ (memory : Option (List MemByte)). memory) (of_both (store w m.memory) place value))).1.memory
both_ordered w m None value ordered = ordered
both_ordered w m (Some at) None ordered = ordered
both_ordered w m (Some at) (Some number) ordered = store_ordered w m.memory at number (load w m.memory at) m ordered ordered

act_ordered : (a : Action) (world : World) (line : Line) (m : RvState) → IsOrdered m.memory → IsOrdered (act a world line m).1.memory
act_ordered (action.Compute operation w left right) world line m ordered = set_ordered m line (of_both (computed operation w) (source_value m line left) (source_value m line right)) ordered
act_ordered (action.Load w extension) world line m ordered = set_ordered m line (loaded w extension m line) ordered
act_ordered (action.Store w) world line m ordered = both_ordered w m (place_of m line) (register m.regs line.rt) ordered
act_ordered action.SymbolAddress world line m ordered = set_ordered m line (symbol_address world.symbols line.target) ordered
act_ordered (action.Branch comparison left right) world line m ordered = ordered
act_ordered action.Jump world line m ordered = ordered
act_ordered action.Call world line m ordered = ordered
act_ordered action.CallRegister world line m ordered = ordered
act_ordered (action.Return through) world line m ordered = ordered

step_ordered : (o : Option Action) (world : World) (line : Line) (m : RvState) → IsOrdered m.memory → IsOrdered (step_as o world line m).1.memory
step_ordered None world line m ordered = ordered
step_ordered (Some a) world line m ordered = act_ordered a world line m ordered

goes_by : (e : LineEnd) (line : Line) (m : RvState) (rest : RvState → Option LinesCome) (done : LinesCome) → IsOrdered m.memory → ((done : LinesCome) → rest m ≡ Some done → IsOrdered done.machine.memory) →
    line_goes_on e line m rest ≡ Some done → IsOrdered done.machine.memory
goes_by ends.Next line m rest done ordered later comes = later done comes
goes_by ends.Jumped line m rest done ordered later comes = let same : come_to m (Goes line.target) ≡ done = cc in subst (λ (d : LinesCome). IsOrdered d.machine.memory) same ordered
goes_by (ends.Called target) line m rest done ordered later comes = let same : come_to m (Calls target) ≡ done = cc in subst (λ (d : LinesCome). IsOrdered d.machine.memory) same ordered
goes_by ends.Returned line m rest done ordered later comes = let same : come_to m Returns ≡ done = cc in subst (λ (d : LinesCome). IsOrdered d.machine.memory) same ordered
goes_by ends.Stuck line m rest done ordered later comes = absurd (let no : ⊥ = cc in no)

pub lines_ordered : (world : World) (lines : List Line) (m : RvState) (done : LinesCome) → lines_come world lines m ≡ Some done → IsOrdered m.memory → IsOrdered done.machine.memory
lines_ordered world [] m done comes ordered = let same : come_to m Falls ≡ done = cc in subst (λ (d : LinesCome). IsOrdered d.machine.memory) same ordered
lines_ordered world (line ∷ lines) m done comes ordered =
    let after : IsOrdered (step world line m).1.memory = step_ordered (action_of line) world line m ordered in
    goes_by (step world line m).0 line (step world line m).1 (lines_come world lines) done after (λ d is. lines_ordered world lines (step world line m).1 d is after) comes
