-- What an answer tells of the two sides: that the states to which they come agree, or which item is
-- the first in which they do not.
use Rattle.std.specs.Prelude.{◌≡◌, ℕ, false, List, Result, Ok, Err}
use Rattle.rtx_tree.specs.declared.function.Insn.{Insn}
use Rattle.term_tree.specs.View.{tree_of}
use Rattle.sym_term.specs.declared.normal.TermRefusal.{TermRefusal}
use Rattle.sym_state.specs.State.{State, Runs}
use Rattle.sym_insns.specs.Run as insns
use Rattle.sym_diff.specs.Difference.{Difference, Differ, Lacks}
use Rattle.sym_diff.specs.Agree.{Agree, FirstFails}
use Rattle.equate.specs.Side.{Side, run_side, is_lines, both_return}
use Rattle.equate.specs.declared.verdict.Verdict.{Verdict}
use Rattle.equate.specs.declared.verdict.Verdict.TheVariants as verdict

-- both sides come to states, and these agree
pub record Alike (before : List Insn) (after : Side) (live : List ℕ) : Type 0 where
  pub first : State
  pub second : State
  pub runs_first : insns.run before ≡ Runs first
  pub runs_second : run_side after ≡ Runs second
  pub agree : Agree (is_lines after) live first second

-- both sides come to states, and a difference tells the first item in which these do not agree
pub record FailsFirst (before : List Insn) (after : Side) (live : List ℕ) (d : Difference) :
    Type 0 where
  pub first : State
  pub second : State
  pub runs_first : insns.run before ≡ Runs first
  pub runs_second : run_side after ≡ Runs second
  pub fails : FirstFails (is_lines after) live first second d

abbrev pub Tells : Result Verdict TermRefusal → List Insn → Side → List ℕ → Type 0
Tells (Ok verdict.Same) before after live =
    both_return before after ≡ false → Alike before after live
Tells (Ok (verdict.Differ item left right)) before after live =
    FailsFirst before after live (Differ item (tree_of left) (tree_of right))
Tells (Ok (verdict.Needs item term)) before after live =
    FailsFirst before after live (Lacks (tree_of term))
Tells (Ok (verdict.Shape index)) before after live = Unit {0}
Tells (Err refusal) before after live = Unit {0}
