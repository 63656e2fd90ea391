-- What the predicates of a description are.
use Rattle.std.proofs.Common.{◌≡◌, List, Result, Ok, Err, sym, ◌∙◌}
use Rattle.rtx_tree.specs.declared.constants.Constant.{Constant}
use Rattle.md_iter.specs.declared.substitution.Instance.{Instance}
use Rattle.md_pattern.specs.declared.reason.Reason.{Reason}
use Rattle.pred_expr.specs.declared.question.Test.{Test}
use Rattle.pred_expr.proofs.Tests.{read_is}
use Rattle.law_predicates.specs.Meaning.{TestsAreRead, PredicatesAre}
use Rattle.law_predicates.proofs.Judged.{are_judged}
use Rattle.law_predicates.proofs.Meant.{are_meant}

abbrev Judgement : Type 0
Judgement = Result Test Reason

same_test : (x y : Test) → ◌≡◌ {A = Judgement} (Ok x) (Ok y) → x ≡ y
same_test x y e = cc

no_test : (r : Reason) (x : Test) → ◌≡◌ {A = Judgement} (Err r) (Ok x) → ⊥
no_test r x e = cc

pub are_read : (constants : List Constant) → TestsAreRead constants
are_read constants = record {
  read = read_is constants;
  one = λ t x y a b. same_test x y (sym ((read_is constants t x).1 a)
      ∙ (read_is constants t y).1 b);
  aside = λ t r e x is. no_test r x (sym e ∙ (read_is constants t x).1 is);
}

pub predicates_are : (constants : List Constant) (forms : List Instance) →
    PredicatesAre constants forms
predicates_are constants forms = record {
  tests = are_read constants;
  judged = are_judged constants forms;
  meant = are_meant constants forms;
}
