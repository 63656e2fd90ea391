-- What a verdict tells of the states to which the sides come.
use Rattle.std.proofs.Common.{◌≡◌, ℕ, Bool, true, false, List, Option, Some, None, refl, sym, ◌∙◌, ap}
use Rattle.std.specs.Prelude.{Result, Ok, Err, if◌then◌else◌}
use Rattle.rtx_tree.specs.declared.function.Insn.{Insn}
use Rattle.term_tree.specs.View.{tree_of}
use Rattle.sym_term.specs.declared.normal.TermRefusal.{TermRefusal}
use Rattle.sym_state.specs.State.{State, Ran, Runs}
use Rattle.sym_state.specs.State as state
use Rattle.sym_insns.specs.Run as insns
use Rattle.sym_diff.specs.Difference.{Difference, Differ, Lacks}
use Rattle.sym_diff.specs.States.{difference}
use Rattle.sym_diff.proofs.FirstLaws.{nothing_found, first_found}
use Rattle.equate.specs.Side.{Side, run_side, is_lines, both_return}
use Rattle.equate.specs.Verdict.{Same, Different}
use Rattle.equate.specs.Equated.{told, judged, verdict as verdict_spec}
use Rattle.equate.specs.Answers.{Gives}
use Rattle.equate.specs.Told.{Alike, FailsFirst, Tells}
use Rattle.equate.specs.declared.verdict.Verdict.{Verdict}
use Rattle.equate.specs.declared.verdict.Verdict.TheVariants as verdict

-- both sides come to states that are compared
record Compared (of_lines : Bool) (live : List ℕ) (r s : Ran) (found : Option Difference) : Type 0 where
  first : State
  second : State
  runs_first : r ≡ Runs first
  runs_second : s ≡ Runs second
  found_is : difference of_lines live first second ≡ found

told_same : (x : Option Difference) → told x ≡ Same → x ≡ None
told_same None h = refl
told_same (Some d) h = cc

told_different : (x : Option Difference) (d : Difference) → told x ≡ Different d → x ≡ Some d
told_different None d h = cc
told_different (Some e) d h = cc

judged_same : (of_lines : Bool) (live : List ℕ) (r s : Ran) → judged of_lines live r s ≡ Same → Compared of_lines live r s None
judged_same of_lines live (state.BadShape index) s h = cc
judged_same of_lines live state.TooLarge (state.BadShape index) h = cc
judged_same of_lines live state.TooLarge state.TooLarge h = cc
judged_same of_lines live state.TooLarge (Runs b) h = cc
judged_same of_lines live (Runs a) (state.BadShape index) h = cc
judged_same of_lines live (Runs a) state.TooLarge h = cc
judged_same of_lines live (Runs a) (Runs b) h = record { first = a; second = b; runs_first = refl; runs_second = refl; found_is = told_same (difference of_lines live a b) h }

judged_different : (of_lines : Bool) (live : List ℕ) (r s : Ran) (d : Difference) → judged of_lines live r s ≡ Different d → Compared of_lines live r s (Some d)
judged_different of_lines live (state.BadShape index) s d h = cc
judged_different of_lines live state.TooLarge (state.BadShape index) d h = cc
judged_different of_lines live state.TooLarge state.TooLarge d h = cc
judged_different of_lines live state.TooLarge (Runs b) d h = cc
judged_different of_lines live (Runs a) (state.BadShape index) d h = cc
judged_different of_lines live (Runs a) state.TooLarge d h = cc
judged_different of_lines live (Runs a) (Runs b) d h = record { first = a; second = b; runs_first = refl; runs_second = refl; found_is = told_different (difference of_lines live a b) d h }

pub verdict_same : (before : List Insn) (after : Side) (live : List ℕ) → verdict_spec before after live ≡ Same → both_return before after ≡ false → Alike before after live
verdict_same before after live h no_return =
    let e = sym (ap (λ b. if b then Same else judged (is_lines after) live (insns.run before) (run_side after)) no_return) ∙ h in
    let s = judged_same (is_lines after) live (insns.run before) (run_side after) e in
    record { first = s.first; second = s.second; runs_first = s.runs_first; runs_second = s.runs_second; agree = nothing_found (is_lines after) live s.first s.second s.found_is }

verdict_different : (before : List Insn) (after : Side) (live : List ℕ) (d : Difference) → verdict_spec before after live ≡ Different d → FailsFirst before after live d
verdict_different before after live d h = go (both_return before after) h
  where
    go : (b : Bool) → (if b then Same else judged (is_lines after) live (insns.run before) (run_side after)) ≡ Different d → FailsFirst before after live d
    go true h = cc
    go false h =
        let s = judged_different (is_lines after) live (insns.run before) (run_side after) d h in
        record { first = s.first; second = s.second; runs_first = s.runs_first; runs_second = s.runs_second; fails = first_found (is_lines after) live s.first s.second d s.found_is }

pub gives_tells : (r : Result Verdict TermRefusal) (before : List Insn) (after : Side) (live : List ℕ) → Gives r (verdict_spec before after live) → Tells r before after live
gives_tells (Ok verdict.Same) before after live h = verdict_same before after live h
gives_tells (Ok (verdict.Differ item left right)) before after live h = verdict_different before after live (Differ item (tree_of left) (tree_of right)) h
gives_tells (Ok (verdict.Needs item term)) before after live h = verdict_different before after live (Lacks (tree_of term)) h.0
gives_tells (Ok (verdict.Shape index)) before after live h = tt
gives_tells (Err refusal) before after live h = tt

pub ruleset telling = (gives_tells)
