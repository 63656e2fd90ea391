-- What the predicates that the plain forms define accept.
use Rattle.std.proofs.Common.{◌≡◌, ◌⊎◌, inl, inr, ℕ, suc, pos, Bool, true, false, ◌&&◌, ◌||◌, List, [], ◌∷◌, length, ◌+◌, codes, Option, None, refl, sym, ap, ◌∙◌, arith}
use Rattle.std.specs.Ordering.{int_eq}
use Rattle.rtx_tree.specs.declared.code.Code.{Code}
use Rattle.rtx_tree.specs.declared.code.Code.TheVariants as code
use Rattle.rtx_tree.specs.declared.code.Mode.{Mode}
use Rattle.rtx_tree.specs.declared.code.Mode.TheVariants.{Void}
use Rattle.rtx_tree.specs.declared.tree.Rtx.{Rtx, out-Rtx}
use Rattle.md_operand.specs.declared.built_in.BuiltIn.{BuiltIn}
use Rattle.md_operand.specs.Operand.{built_in_named, register_operand, const_int_operand, is_symbol, is_symbol_code}
use Rattle.c_eval.specs.Value.{is_a, same_code}
use Rattle.pred_expr.specs.declared.question.Question.TheVariants as question
use Rattle.pred_expr.specs.declared.question.Test.{Test}
use Rattle.pred_rows.specs.Tests.{Accepts, test_step, test_holds}
use Rattle.md_forms.specs.declared.form.Entry.{Entry}
use Rattle.md_pred.specs.Holds.{is_of_mode, definition_holds, defined, own_or, defined_within, holds}
use Rattle.rtx_open.proofs.Tests as tests
use Rattle.plain_forms.specs.Conditions as condition
use Rattle.law_plain_operands.specs.Have.{HasPredicate, HavePlain}
use Rattle.law_plain_operands.proofs.Tests.{IsConstantWith, constant_with, constant_test, value_zero}

-- what definitions accept, by one round more
abbrev others : List Entry → Accepts
others forms name x m = own_or (built_in_named name) m x (defined_within (defined forms) (length forms) name x m)

one_more : (n : ℕ) → n + 1 ≡ suc n
one_more n = omega arith

-- a defined predicate accepts what its test holds for
tested : (forms : List Entry) (name : List ℕ) (test : Test) (x : Rtx) (m : Mode) → built_in_named name ≡ None → HasPredicate forms name test →
    holds forms name x m ≡ (is_of_mode m x && test_holds (others forms) x m test)
tested forms name test x m other is =
    ap (λ (o : Option BuiltIn). own_or o m x (defined_within (defined forms) (length forms + 1) name x m)) other ∙
    (ap (λ n. defined_within (defined forms) n name x m) (one_more (length forms)) ∙ ap (λ o. definition_holds (others forms) x m o) is)

second : (p q : Bool) → (p && q) ≡ true → q ≡ true
second true q is = is
second false q is = cc

either : (p q : Bool) → (p || q) ≡ true → (p ≡ true) ⊎ (q ≡ true)
either true q is = inl refl
either false q is = inr is

-- a test of two
abbrev of_two : Test → Test → tests.Written
of_two a b = tests.node question.Ior (tests.with (tests.any a) (tests.with (tests.any b) tests.none))

any_of : (accepts : Accepts) (x : Rtx) (m : Mode) (a b : Test) → test_holds accepts x m (condition.any a b) ≡ true → (test_holds accepts x m a ≡ true) ⊎ (test_holds accepts x m b ≡ true)
any_of accepts x m a b is = either (test_holds accepts x m a) (test_holds accepts x m b) (sym (tests.gathers (test_step accepts x m) (of_two a b)) ∙ is)

-- a symbol
symbol_code : (c : Code) → same_code c code.SymbolRef ≡ is_symbol_code c
symbol_code code.SymbolRef = refl
symbol_code _ = refl

alone : (p : Bool) → (p || false) ≡ true → p ≡ true
alone true is = refl
alone false is = cc

symbol_asked : (accepts : Accepts) (x : Rtx) (m : Mode) → test_holds accepts x m (condition.has_code code.SymbolRef) ≡ true → is_symbol x ≡ true
symbol_asked accepts x m is =
    sym (symbol_code (out-Rtx x).code) ∙ alone (is_a code.SymbolRef x) (sym (tests.gathers (test_step accepts x m) (tests.node (question.Codes (code.SymbolRef ∷ [])) tests.none)) ∙ is)

-- a predicate that the manual has
asks : (forms : List Entry) (x : Rtx) (m : Mode) (name : List ℕ) → test_holds (others forms) x m (condition.accepted name) ≡ others forms name x m
asks forms x m name = tests.gathers (test_step (others forms) x m) (tests.node (question.Predicate name Void) tests.none)

module _ (forms : List Entry) (have : HavePlain forms) (x : Rtx) (m : Mode) where
  -- a register, or 0
  pub register_or_0 : holds forms (codes "reg_or_0_operand") x m ≡ true → (register_operand m x ≡ true) ⊎ IsConstantWith (λ n. int_eq n (pos 0)) x
  register_or_0 is = go (any_of (others forms) x m (condition.accepted (codes "register_operand")) zero (second (is_of_mode m x) _ (sym (tested forms (codes "reg_or_0_operand") condition.register_or_zero x m refl have.register_or_0) ∙ is)))
    where
      zero : Test
      zero = condition.constant_with (condition.is_zero (condition.value 0))

      go : (test_holds (others forms) x m (condition.accepted (codes "register_operand")) ≡ true) ⊎ (test_holds (others forms) x m zero ≡ true) → (register_operand m x ≡ true) ⊎ IsConstantWith (λ n. int_eq n (pos 0)) x
      go (inl is) = inl (sym (asks forms x m (codes "register_operand")) ∙ is)
      go (inr is) = inr (constant_with (λ n. int_eq n (pos 0)) x (sym (value_zero x) ∙ constant_test (others forms) x m (condition.is_zero (condition.value 0)) is))

  -- a register, or a constant of the mode
  pub register_or_int : holds forms (codes "reg_or_int_operand") x m ≡ true → (register_operand m x ≡ true) ⊎ (const_int_operand m x ≡ true)
  register_or_int is = go (any_of (others forms) x m (condition.accepted (codes "register_operand")) (condition.accepted (codes "const_int_operand")) (second (is_of_mode m x) _ (sym (tested forms (codes "reg_or_int_operand") condition.register_or_int x m refl have.register_or_int) ∙ is)))
    where
      go : (test_holds (others forms) x m (condition.accepted (codes "register_operand")) ≡ true) ⊎ (test_holds (others forms) x m (condition.accepted (codes "const_int_operand")) ≡ true) →
          (register_operand m x ≡ true) ⊎ (const_int_operand m x ≡ true)
      go (inl is) = inl (sym (asks forms x m (codes "register_operand")) ∙ is)
      go (inr is) = inr (sym (asks forms x m (codes "const_int_operand")) ∙ is)

  -- a register, or a symbol
  pub called : holds forms (codes "call_operand") x m ≡ true → (register_operand m x ≡ true) ⊎ (is_symbol x ≡ true)
  called is = go (any_of (others forms) x m (condition.accepted (codes "register_operand")) (condition.has_code code.SymbolRef) (second (is_of_mode m x) _ (sym (tested forms (codes "call_operand") condition.register_or_symbol x m refl have.called) ∙ is)))
    where
      go : (test_holds (others forms) x m (condition.accepted (codes "register_operand")) ≡ true) ⊎ (test_holds (others forms) x m (condition.has_code code.SymbolRef) ≡ true) →
          (register_operand m x ≡ true) ⊎ (is_symbol x ≡ true)
      go (inl is) = inl (sym (asks forms x m (codes "register_operand")) ∙ is)
      go (inr is) = inr (symbol_asked (others forms) x m is)
