-- Whole runs of instructions. Where the instructions come to something, the needs of their symbolic state were met, and it means what they come to; where its needs are met, they
-- come to what it means.
use Rattle.std.proofs.Common.{◌≡◌, true, List, Some, refl, sym, ◌∙◌, ap}
use Rattle.rtx_tree.specs.declared.function.Insn.{Insn}
use Rattle.rtx_tree.specs.declared.machine.RangeAt.{RangeAt}
use Rattle.rtx_tree.specs.declared.machine.SymbolAt.{SymbolAt}
use Rattle.rtx_tree.specs.declared.memories.MemByte.{MemByte}
use Rattle.rtl_step.specs.Regs.{Regs}
use Rattle.term_mean.specs.Meaning.{Valuation}
use Rattle.term_mean.specs.Stores.{Stored}
use Rattle.law_window_runs.specs.Insns.{InsnsCome, insns_come}
use Rattle.sym_insns.specs.sym_state.State.{State, Runs, start}
use Rattle.sym_insns.specs.Run.{run_from, run}
use Rattle.sym_insns.specs.Shape.{bad_insn}
use Rattle.law_insn_terms.specs.Needs.{First}
use Rattle.law_insn_terms.specs.Means.{first_of, all_met, IsFirst, IsAligned, RunMeans, Comes}
use Rattle.law_insn_terms.proofs.Ends.{Way}
use Rattle.law_insn_terms.proofs.Firsts.{start_shows}
use Rattle.law_insn_terms.proofs.Writes.{Write, run_writes, memories, no_memory, memories_follow}
use Rattle.law_insn_terms.proofs.Known.{means_from}
use Rattle.law_insn_terms.proofs.Shown.{comes_from}
use Rattle.law_insn_terms.proofs.Ways.{does_run}

-- ---- the whole run

start_way : (v : Valuation) (symbols : List SymbolAt) (regs : Regs) (memory : List MemByte) → IsFirst v (first_of symbols regs memory) → Way v (first_of symbols regs memory) start regs memory
start_way v symbols regs memory first = record { no_call = refl; no_jump = refl; shows = start_shows v symbols regs memory first }

-- a valuation with other memories behind the first
behind_first : (first : Valuation) (f : First) (ws : List Write) → IsFirst first f → IsFirst (record first { memory = memories (first.memory 0) ws }) f
behind_first first f ws is = record {
  of = record { registers = is.of.registers; symbols = is.of.symbols; words = is.of.words };
  memory_is = record {
    bytes = λ address byte there. is.memory_is.bytes address byte there ∙ sym (ap (λ m. m address) (no_memory (first.memory 0) ws));
    small = is.memory_is.small;
    words = is.memory_is.words;
    addresses = is.memory_is.addresses;
  };
}

-- instructions that come to something: their needs were met, and the state means what they come to
pub run_means : (symbols : List SymbolAt) (ranges : List RangeAt) (insns : List Insn) (regs : Regs) (memory : List MemByte) (s : State) (came : InsnsCome) (first : Valuation) →
    run insns ≡ Runs s → insns_come symbols ranges insns regs memory ≡ Some came → IsFirst first (first_of symbols regs memory) → RunMeans first (first_of symbols regs memory) ranges s came
run_means symbols ranges insns regs memory s came first runs comes is =
    let ws : List Write = run_writes symbols insns regs memory in
    let v : Valuation = record first { memory = memories (first.memory 0) ws } in
    let f : First = first_of symbols regs memory in
    let known : IsFirst v f = behind_first first f ws is in
    let does = does_run (bad_insn insns) (run_from 0 insns start) s runs in
    let on = means_from v f ranges known.of insns 0 start s regs memory came does.fits does.goes comes (start_way v symbols regs memory known) refl (memories_follow (first.memory 0) ws) in record {
      v = v;
      same_reg = λ reg. refl;
      same_sym = λ name. refl;
      same_memory = λ address. ap (λ m. m address) (no_memory (first.memory 0) ws);
      met = on.met;
      means = on.means;
    }

-- instructions whose needs are met come to what the state means
pub run_comes : (symbols : List SymbolAt) (ranges : List RangeAt) (insns : List Insn) (regs : Regs) (memory : List MemByte) (s : State) (v : Valuation) →
    run insns ≡ Runs s → IsFirst v (first_of symbols regs memory) → Stored v s.stores → all_met v (first_of symbols regs memory) s.needs ≡ true → IsAligned v s.call →
    Comes v (first_of symbols regs memory) ranges s (insns_come symbols ranges insns regs memory)
run_comes symbols ranges insns regs memory s v runs is stored met aligned =
    let does = does_run (bad_insn insns) (run_from 0 insns start) s runs in
    comes_from v (first_of symbols regs memory) ranges is.of insns 0 start s regs memory does.fits does.goes (start_way v symbols regs memory is) stored met aligned
