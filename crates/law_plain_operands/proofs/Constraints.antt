-- What the constraints I, J, K and L admit.
use Rattle.std.proofs.Common.{◌≡◌, ℕ, pos, negsuc, true, false, List, codes, sym, ap, ◌∙◌}
use Rattle.std.specs.Prelude.{option_and_then}
use Rattle.std.specs.Option.{option_map_or}
use Rattle.std.specs.Ordering.{int_eq}
use Rattle.rtx_tree.specs.declared.code.Mode.TheVariants.{Void}
use Rattle.rtx_tree.specs.declared.tree.Rtx.{Rtx}
use Rattle.pred_expr.specs.declared.question.Test.{Test}
use Rattle.pred_rows.specs.Tests.{Accepts, test_holds}
use Rattle.md_forms.specs.declared.form.Entry.{Entry}
use Rattle.md_constr.specs.md_attr.Alternatives.{accepted}
use Rattle.md_constr.specs.Admits.{form_admits, name_admits}
use Rattle.plain_forms.specs.Conditions as condition
use Rattle.law_plain_operands.specs.Have.{HasConstraint, HavePlain}
use Rattle.law_plain_operands.proofs.Tests.{IsConstantWith, is_in, constant_with, constant_test, own_zero, own_count, own_short}

-- a constraint with a test admits what the test holds for, asked in no mode
tested : (forms : List Entry) (accepts : Accepts) (name : List ℕ) (test : Test) (x : Rtx) → HasConstraint forms name test → name_admits forms accepts name x ≡ test_holds accepts x Void test
tested forms accepts name test x is = ap (λ o. option_map_or (λ f. form_admits accepts f x) (option_and_then accepted o) false) is

module _ (forms : List Entry) (accepts : Accepts) (have : HavePlain forms) (x : Rtx) where
  pub short : name_admits forms accepts (codes "I") x ≡ true → IsConstantWith (is_in (negsuc 2047) (pos 2047)) x
  short is =
      let test = condition.ranges (condition.minus 2048) (condition.number 2047) in
      constant_with (is_in (negsuc 2047) (pos 2047)) x (sym (own_short x) ∙ constant_test accepts x Void test (sym (tested forms accepts (codes "I") (condition.constant_with test) x have.short) ∙ is))

  pub zero : name_admits forms accepts (codes "J") x ≡ true → IsConstantWith (λ n. int_eq n (pos 0)) x
  zero is =
      let test = condition.is_zero condition.ival in
      constant_with (λ n. int_eq n (pos 0)) x (sym (own_zero x) ∙ constant_test accepts x Void test (sym (tested forms accepts (codes "J") (condition.constant_with test) x have.zero) ∙ is))

  pub count_32 : name_admits forms accepts (codes "K") x ≡ true → IsConstantWith (is_in (pos 0) (pos 31)) x
  count_32 is =
      let test = condition.ranges (condition.number 0) (condition.number 31) in
      constant_with (is_in (pos 0) (pos 31)) x (sym (own_count 31 x) ∙ constant_test accepts x Void test (sym (tested forms accepts (codes "K") (condition.constant_with test) x have.count_32) ∙ is))

  pub count_64 : name_admits forms accepts (codes "L") x ≡ true → IsConstantWith (is_in (pos 0) (pos 63)) x
  count_64 is =
      let test = condition.ranges (condition.number 0) (condition.number 63) in
      constant_with (is_in (pos 0) (pos 63)) x (sym (own_count 63 x) ∙ constant_test accepts x Void test (sym (tested forms accepts (codes "L") (condition.constant_with test) x have.count_64) ∙ is))
