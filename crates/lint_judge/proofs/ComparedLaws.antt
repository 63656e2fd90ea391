-- What comes of lines for an instruction, by the verdict on them.
use Rattle.std.proofs.Common.{◌≡◌, ℕ, List, [], ◌∷◌, Option, Ok, sym, subst, ap, ◌∙◌}
use Rattle.rtx_tree.specs.declared.function.Insn.{Insn}
use Rattle.rv_text.specs.declared.line.Line.{Line}
use Rattle.equate.specs.Side as sides
use Rattle.equate.specs.Verdict as verdicts
use Rattle.equate.specs.Equated.{verdict}
use Rattle.equate.specs.Answers.{Gives}
use Rattle.equate.specs.Views.{side_of}
use Rattle.equate.specs.declared.verdict.Side.{Side}
use Rattle.equate.specs.declared.verdict.Verdict.{Verdict}
use Rattle.md_output.specs.Read.{AreReadAs}
use Rattle.lint_judge.specs.Judged.{AreAllLive, Tells, IsCompared}
use Rattle.lint_judge.specs.declared.judged.Fault.{Fault}
use Rattle.lint_judge.specs.machine.Steps.{lines_in}

pub is_compared : (texts : List (List ℕ)) (insn : Insn) (side : Side) (lines : List Line) (before : List Insn) (live : List ℕ) (answer : Verdict) (found : Option Fault) →
    before ≡ insn ∷ [] → lines ≡ lines_in side → AreReadAs texts (lines_in side) → side_of side ≡ sides.Lines 0 (lines_in side) → AreAllLive live →
    Gives (Ok answer) (verdict before (side_of side) live) →
    ((v : verdicts.Verdict) → Gives (Ok answer) v → Tells texts lines found v) → IsCompared texts insn found
is_compared texts insn side lines before live answer found alone are read is all gives tells = record {
  lines = lines_in side;
  read = read;
  live = live;
  all_live = all;
  tells = subst (λ (ls : List Line). Tells texts ls found (verdict (insn ∷ []) (sides.Lines 0 (lines_in side)) live)) are (subst (λ (s : sides.Side). Tells texts lines found (verdict (insn ∷ []) s live)) is (tells (verdict (insn ∷ []) (side_of side) live) (subst (λ (b : List Insn). Gives (Ok answer) (verdict b (side_of side) live)) alone gives)));
}
