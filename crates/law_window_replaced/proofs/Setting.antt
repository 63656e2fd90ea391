-- A function and the one with other instructions in the place of a window; how their runs stand beside each other.
use Rattle.std.proofs.Common.{◌≡◌, ◌≢◌, ℕ, ◌+◌, ◌<◌, true, false, drop, length, List, [], ◌++◌}
use Rattle.rtx_tree.specs.RegSet.{has_reg}
use Rattle.rtx_tree.specs.declared.function.Function.{Function}
use Rattle.rtx_tree.specs.declared.function.Insn.{Insn}
use Rattle.rtx_tree.specs.declared.machine.Start.{Start}
use Rattle.rtx_tree.specs.declared.machine.World.{World}
use Rattle.rtl_step.specs.Step.{step}
use Rattle.rtl_step.specs.declared.step.State.{State}
use Rattle.func_run.specs.Run.{entry_of, goes_on}
use Rattle.func_run.specs.declared.outcome.Outcome.{Outcome}
use Rattle.func_run.specs.declared.outcome.Outcome.TheVariants.{Undefined}
use Rattle.rtl_func.specs.Paths.{leads}
use Rattle.rv_regs.specs.Registers.{kept_registers}
use Rattle.reg_uses.specs.Uses.{function_sets}
use Rattle.live.specs.Live.{IsLive, IsLiveAfter}
use Rattle.same_behaviour.specs.Lawful.{IsMemory}
use Rattle.law_function_kept.specs.Keeps.{IsMachineWorld}
use Rattle.law_function_kept.specs.Ends.{is_past, ends_past}
use Rattle.law_function_kept.specs.Outcomes.{SameEvents, SameOutcome}
use Rattle.law_window_runs.specs.Insns.{insns_come}
use Rattle.law_window_kept.specs.Same.{KnownToo, CanReplace, leads_last}
use Rattle.law_window_lines.specs.ForLines.{MarksAreEmpty}
use Rattle.law_window_lines.proofs.Simulation as machine
use Rattle.law_window_replaced.specs.Natural.{RegistersAreNatural}
use Rattle.law_window_replaced.specs.Replaced.{AreReplaced}
use Rattle.law_window_replaced.proofs.Machine.{End, turn, stop, weight, Any}
use Rattle.law_window_replaced.proofs.Stands.{Stands}

-- a function, a chain with other instructions in the place of windows of its chain, a start and a world
pub record Setting : Type 0 where
  pub f : Function
  pub insns : List Insn
  pub replaced : AreReplaced f 0 f.insns insns
  pub marks : MarksAreEmpty f
  pub natural : RegistersAreNatural f
  pub start : Start
  pub world : World
  pub world_is : IsMachineWorld world

-- the function with the other chain
abbrev pub new_of : Setting → Function
new_of c = record (c.f) { insns = c.insns }

-- a window and the instructions in its place, with the rests of the two chains behind them
pub record Site (c : Setting) : Type 0 where
  pub window : List Insn
  pub new : List Insn
  pub back : List Insn
  pub back_new : List Insn
  pub first : ℕ
  pub last : ℕ
  pub begins : drop first c.f.insns ≡ window ++ back
  pub first_is : first + length window ≡ last + 1
  pub some : 0 < length window
  pub replace : CanReplace window new (λ reg. IsLiveAfter c.f reg last)
  pub behind : AreReplaced c.f (last + 1) back back_new

-- ---- states beside each other

-- What is live at a place is known too, and what a function preserves and no `set` sets; memory and the calls are the same.
pub record Alike (c : Setting) (q : ℕ) (s t : State) : Type 0 where
  pub live : (reg : ℕ) → IsLive c.f reg q → KnownToo s.regs t.regs reg
  pub kept : (reg : ℕ) → has_reg kept_registers reg ≡ true → function_sets c.f reg ≡ false → KnownToo s.regs t.regs reg
  pub memory_is : t.memory ≡ s.memory
  pub visible_is : t.visible ≡ s.visible
  pub calls_are : SameEvents s.calls t.calls
  pub is_memory : IsMemory s.memory

-- The one has gone through a window up to a rest of it, and the other waits at the window: what the window does from where it was
-- entered is what the rest does from here.
pub record Waits (c : Setting) (w : Site c) (s0 s t : State) (rest : List Insn) (q other : ℕ) : Type 0 where
  pub alike : Alike c w.first s0 t
  pub stands : Stands c.f.insns s.next (rest ++ w.back) q
  pub waiting : Stands (new_of c).insns t.next (w.new ++ w.back_new) other
  pub leads_on : leads_last rest ≡ true
  pub last_is : q + length rest ≡ w.last + 1
  pub ends : rest ≡ [] → leads c.f.insns w.last q ≡ true
  pub comes : insns_come c.world.symbols s0.visible w.window s0.regs s0.memory ≡
      insns_come c.world.symbols s.visible rest s.regs s.memory
  pub visible_is : s.visible ≡ s0.visible
  pub calls_are : s.calls ≡ s0.calls
  pub is_memory : IsMemory s.memory

-- both stand outside of windows at places that correspond, or the one is in a window and the other waits
pub data Related (c : Setting) (s t : State) : Type 0 where
  outside : (xs ys : List Insn) (q other : ℕ) → AreReplaced c.f q xs ys → Stands c.f.insns s.next xs q →
      Stands (new_of c).insns t.next ys other → Alike c q s t → Related c s t
  inside : (w : Site c) (s0 : State) (rest : List Insn) (q other : ℕ) → Waits c w s0 s t rest q other → Related c s t

-- ---- the steps of the one and the turns of the other

-- wherever the run ends, its outcome has a value
abbrev pub HasValue : State → Outcome → Type 0
HasValue s outcome = outcome ≢ Undefined

-- the old function's run ends past its last instruction, sooner or later
abbrev pub Past : Setting → Type 0
Past c = (n : ℕ) × (ends_past c.world c.f n (entry_of c.start) ≡ true)

-- the same outcome; and the new run has ended past the last instruction only where the old one ends so
abbrev pub SameEnding : Setting → Outcome → End → Type 0
SameEnding c x y = SameOutcome x y.0 × (y.1 ≡ true → Past c)

abbrev pub Moves : Setting → ℕ → State → State → Type 0
Moves c k t t' = machine.Moves State End (turn c.world (new_of c)) (stop c.world (new_of c)) (weight c.world (new_of c))
    (Any c.world (new_of c)) k t t'

abbrev pub Simulates : Setting → State → State → Type 0
Simulates c s t = machine.Simulates State End (turn c.world (new_of c)) (stop c.world (new_of c)) (weight c.world (new_of c))
    (Any c.world (new_of c)) c.world c.f (Related c) HasValue (SameEnding c) s t

-- where a step ends the run, its outcome has a value; and if it is past the last instruction, the run ends there
pub record EndsWell (c : Setting) (s : State) : Type 0 where
  pub good : machine.EndsGood State End (turn c.world (new_of c)) (stop c.world (new_of c)) (weight c.world (new_of c))
      (Any c.world (new_of c)) c.world c.f (Related c) HasValue (SameEnding c) s
  pub past : is_past c.f s ≡ true → goes_on (step c.world c.f s).0 ≡ false → Past c

-- from places that correspond the runs go on
abbrev pub Onward : Setting → ℕ → ℕ → Type 0
Onward c q other = (s t : State) → s.next ≡ q → t.next ≡ other → Alike c q s t → Related c s t
