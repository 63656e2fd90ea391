-- What the predicates that the plain forms define accept: a register or 0, a register or a constant, and what is called.
use Rattle.std.proofs.Common.{◌≡◌, ℕ, suc, pos, Bool, true, false, ◌&&◌, ◌||◌, List, [], ◌∷◌, length, ◌+◌, codes, Option, Some, None, refl, ap, ◌∙◌, arith}
use Rattle.std.specs.Prelude.{ℤ, if◌then◌else◌}
use Rattle.std.specs.Option.{option_map_or}
use Rattle.std.specs.Ordering.{int_eq}
use Rattle.rtx_tree.specs.declared.code.Code.TheVariants as code
use Rattle.rtx_tree.specs.declared.code.Mode.{Mode}
use Rattle.rtx_tree.specs.declared.code.Mode.TheVariants.{Void, DI}
use Rattle.rtx_tree.specs.declared.tree.Rtx.{Rtx, out-Rtx}
use Rattle.rtx_tree.specs.Tree.{const_of}
use Rattle.c_eval.specs.Value.{is_a, same_code}
use Rattle.pred_expr.specs.declared.question.Question.TheVariants as question
use Rattle.pred_expr.specs.declared.question.Test.{Test}
use Rattle.pred_rows.specs.Tests.{Accepts, test_step, test_holds, condition_holds}
use Rattle.md_operand.specs.declared.built_in.BuiltIn.{BuiltIn}
use Rattle.md_operand.specs.Operand.{built_in_named, is_register, is_constant, is_constant_code, accepts_mode, has_mode, is_extended, register_operand, const_int_operand}
use Rattle.md_forms.specs.declared.form.Entry.{Entry}
use Rattle.md_pred.specs.Holds.{is_of_mode, definition_holds, defined, own_or, defined_within, holds}
use Rattle.plain_forms.specs.Conditions as condition
use Rattle.rtx_open.proofs.Expressions.{rtx, outside_is}
use Rattle.rtx_open.proofs.Tests as tests
use Rattle.law_plain_leaves.proofs.Shaped.{two_of}
use Rattle.law_plain_leaves.proofs.Leaves.{number, symbol}
use Rattle.law_plain_operands.specs.Have.{HasPredicate, HavePlain}
use Rattle.law_plain_operands.proofs.Tests.{with_number, value_zero}

-- ---- what a definition accepts

abbrev others : List Entry → Accepts
others forms name x m = own_or (built_in_named name) m x (defined_within (defined forms) (length forms) name x m)

one_more : (n : ℕ) → n + 1 ≡ suc n
one_more n = omega arith

tested : (forms : List Entry) (name : List ℕ) (test : Test) (x : Rtx) (m : Mode) → built_in_named name ≡ None → HasPredicate forms name test →
    holds forms name x m ≡ (is_of_mode m x && test_holds (others forms) x m test)
tested forms name test x m other is =
    ap (λ (o : Option BuiltIn). own_or o m x (defined_within (defined forms) (length forms + 1) name x m)) other ∙
    (ap (λ n. defined_within (defined forms) n name x m) (one_more (length forms)) ∙ ap (λ o. definition_holds (others forms) x m o) is)

either_of : (accepts : Accepts) (x : Rtx) (m : Mode) (a b : Test) → test_holds accepts x m (condition.any a b) ≡ (test_holds accepts x m a || test_holds accepts x m b)
either_of accepts x m a b = tests.gathers (test_step accepts x m) (tests.node question.Ior (tests.with (tests.any a) (tests.with (tests.any b) tests.none)))

asks : (forms : List Entry) (x : Rtx) (m : Mode) (name : List ℕ) → test_holds (others forms) x m (condition.accepted name) ≡ others forms name x m
asks forms x m name = tests.gathers (test_step (others forms) x m) (tests.node (question.Predicate name Void) tests.none)

first_true : (p q : Bool) → p ≡ true → (p || q) ≡ true
first_true true q is = refl
first_true false q is = cc

second_true : (p q : Bool) → q ≡ true → (p || q) ≡ true
second_true true q is = refl
second_true false q is = is

both_true : (p q : Bool) → p ≡ true → q ≡ true → (p && q) ≡ true
both_true true q one other = other
both_true false q one other = cc

-- ---- trees that are written out

zero_asked : (accepts : Accepts) (m : Mode) → test_holds accepts (rtx (number (pos 0))) m (condition.constant_with (condition.is_zero (condition.value 0))) ≡ true
zero_asked accepts m =
    let x = rtx (number (pos 0)) in
    let c = condition.is_zero (condition.value 0) in
    let of_code : (is_a code.ConstInt x || false) ≡ true = ap (λ o. same_code o.code code.ConstInt || false) (outside_is (number (pos 0))) in
    let of_number : with_number (λ n. int_eq n (pos 0)) x ≡ true =
    ap (λ o. option_map_or (λ n. int_eq n (pos 0)) (if same_code o.code code.ConstInt then Some o.number else None) false) (outside_is (number (pos 0))) in
    tests.gathers (test_step accepts x m) (tests.node question.And (tests.with (tests.node (question.Codes (code.ConstInt ∷ [])) tests.none) (tests.with (tests.node (question.Condition c) tests.none) tests.none))) ∙
    both_true (is_a code.ConstInt x || false) (condition_holds c x) of_code (value_zero x ∙ of_number)

module _ (forms : List Entry) (have : HavePlain forms) (m : Mode) where
  -- ---- a register, or 0

  register_test : (x : Rtx) → register_operand m x ≡ true → test_holds (others forms) x m (condition.accepted (codes "register_operand")) ≡ true
  register_test x is = asks forms x m (codes "register_operand") ∙ is

  moded : (x : Rtx) → register_operand m x ≡ true → is_of_mode m x ≡ true
  moded x is = first_true (has_mode m x) (is_constant x) (two_of (is_register x) (has_mode m x) is).1

  abbrev zero : Test
  zero = condition.constant_with (condition.is_zero (condition.value 0))

  pub register_for_0 : (x : Rtx) → register_operand m x ≡ true → holds forms (codes "reg_or_0_operand") x m ≡ true
  register_for_0 x is =
      tested forms (codes "reg_or_0_operand") condition.register_or_zero x m refl have.register_or_0 ∙
      both_true (is_of_mode m x) _ (moded x is) (either_of (others forms) x m (condition.accepted (codes "register_operand")) zero ∙ first_true _ _ (register_test x is))

  pub zero_for_0 : holds forms (codes "reg_or_0_operand") (const_of (pos 0)) m ≡ true
  zero_for_0 =
      let x = rtx (number (pos 0)) in
      let constant : is_constant x ≡ true = ap (λ o. is_constant_code o.code) (outside_is (number (pos 0))) in
      tested forms (codes "reg_or_0_operand") condition.register_or_zero x m refl have.register_or_0 ∙
      both_true (is_of_mode m x) _ (second_true (has_mode m x) (is_constant x) constant) (either_of (others forms) x m (condition.accepted (codes "register_operand")) zero ∙ second_true _ _ (zero_asked (others forms) m))

  -- ---- a register, or a constant of the mode

  pub register_or_int : (x : Rtx) → (register_operand m x || const_int_operand m x) ≡ true → holds forms (codes "reg_or_int_operand") x m ≡ true
  register_or_int x is =
      tested forms (codes "reg_or_int_operand") condition.register_or_int x m refl have.register_or_int ∙
      both_true (is_of_mode m x) _ (of_either (register_operand m x) refl is)
      (either_of (others forms) x m (condition.accepted (codes "register_operand")) (condition.accepted (codes "const_int_operand")) ∙
      (ap (λ b. b || test_holds (others forms) x m (condition.accepted (codes "const_int_operand"))) (asks forms x m (codes "register_operand")) ∙
      (ap (λ b. register_operand m x || b) (asks forms x m (codes "const_int_operand")) ∙ is)))
    where
      of_either : (b : Bool) → register_operand m x ≡ b → (b || const_int_operand m x) ≡ true → is_of_mode m x ≡ true
      of_either true here is = moded x here
      of_either false here is = second_true (has_mode m x) (is_constant x) (two_of (is_constant x) (is_extended m (out-Rtx x).number) is).0

-- ---- what is called: a register or a symbol

module _ (forms : List Entry) (have : HavePlain forms) where
  pub register_called : (x : Rtx) → register_operand DI x ≡ true → holds forms (codes "call_operand") x DI ≡ true
  register_called x is =
      tested forms (codes "call_operand") condition.register_or_symbol x DI refl have.called ∙
      both_true (is_of_mode DI x) _ (moded forms have DI x is) (either_of (others forms) x DI (condition.accepted (codes "register_operand")) (condition.has_code code.SymbolRef) ∙ first_true _ _ (register_test forms have DI x is))

  pub symbol_called : (z : ℤ) (name : List ℕ) → holds forms (codes "call_operand") (rtx (symbol z name)) DI ≡ true
  symbol_called z name =
      let x = rtx (symbol z name) in
      let of_mode : has_mode DI x ≡ true = ap (λ o. accepts_mode DI o.mode) (outside_is (symbol z name)) in
      let of_code : (is_a code.SymbolRef x || false) ≡ true = ap (λ o. same_code o.code code.SymbolRef || false) (outside_is (symbol z name)) in
      tested forms (codes "call_operand") condition.register_or_symbol x DI refl have.called ∙
      both_true (is_of_mode DI x) _ (first_true (has_mode DI x) (is_constant x) of_mode)
      (either_of (others forms) x DI (condition.accepted (codes "register_operand")) (condition.has_code code.SymbolRef) ∙
      second_true _ _ (tests.gathers (test_step (others forms) x DI) (tests.node (question.Codes (code.SymbolRef ∷ [])) tests.none) ∙ of_code))
