-- Instructions whose symbolic state agrees with that of a window, over the registers that are live behind, can stand in its place.
use Rattle.std.specs.Prelude.{◌≡◌, ℕ, true, false, List, length}
use Rattle.std.proofs.Common.{refl, ap}
use Rattle.rtx_tree.specs.declared.function.Insn.{Insn}
use Rattle.term_tree.specs.Tree.{Tree}
use Rattle.law_window_kept.specs.Same.{SameEnd, DoKeep, CanReplace}
use Rattle.law_states_agree.specs.sym_state.State.{State, Runs}
use Rattle.law_states_agree.specs.sym_insns.Run as insns_run
use Rattle.law_states_agree.specs.law_insn_terms.Means.{first_of}
use Rattle.law_states_agree.specs.sym_diff.Registers.{is_live}
use Rattle.law_states_agree.specs.sym_diff.Agree.{Agree}
use Rattle.law_states_agree.proofs.Windows.{window_keeps}
use Rattle.law_insns_agree.proofs.Behind.{agree_behind, kept_behind}
use Rattle.law_insns_agree.proofs.Ends.{same_end}
use Rattle.law_insns_agree.proofs.Memories.{memories_same}
use Rattle.law_insns_agree.proofs.Shapes.{runs_lead}
use Rattle.law_insns_agree.proofs.Told.{Told, tell}

module _ (before after : List Insn) (live : List ℕ) (Few : ℕ → Type 0) (few : (reg : ℕ) → Few reg → is_live live reg ≡ true) (a b : State) (runs_first : insns_run.run before ≡ Runs a) (runs_second : insns_run.run after ≡ Runs b)
    (agree : Agree false live a b) where
  keeps : DoKeep before after Few
  keeps symbols ranges regs other memory came starts comes =
      let told : Told before after a b symbols ranges regs other memory came =
      tell before after live a b runs_first runs_second agree symbols ranges regs other memory came starts.symbols_are starts.memory_is starts.used comes in
      let first = window_keeps symbols ranges before regs memory came comes in
      let second = window_keeps symbols ranges after other memory told.done told.comes in
      let memory_is : told.done.memory ≡ came.memory =
      memories_same told.v told.u (first_of symbols regs memory) (first_of symbols other memory) came.memory told.done.memory (length a.stores) (length b.stores) told.means.shows.memory_is told.done_means.shows.memory_is refl
      (ap (λ (l : List (Tree × Tree)). length l) agree.stores) told.bytes (first.ordered starts.memory_is.ordered) (second.ordered starts.memory_is.ordered) in
      let ends : SameEnd came.ending told.done.ending = same_end before after live a b runs_first runs_second agree symbols ranges regs other memory came told memory_is in
      record {
        done = told.done;
        comes = told.comes;
        same_end = ends;
        memory_is = memory_is;
        agree = agree_behind before after live Few few a b runs_first agree symbols ranges regs other memory came starts told ends;
        kept = kept_behind before after live Few few a b runs_first agree symbols ranges regs other memory came starts told ends first;
      }

-- over any of the registers that are live
pub agreeing_keeps : (before after : List Insn) (live : List ℕ) (Few : ℕ → Type 0) → ((reg : ℕ) → Few reg → is_live live reg ≡ true) → (a b : State) → insns_run.run before ≡ Runs a → insns_run.run after ≡ Runs b → Agree false live a b →
    CanReplace before after Few
agreeing_keeps before after live Few few a b runs_first runs_second agree = record {
  before_leads = runs_lead before a runs_first;
  after_leads = runs_lead after b runs_second;
  same = keeps before after live Few few a b runs_first runs_second agree;
}
