-- Tests that an operand is a constant whose number passes a test.
use Rattle.std.proofs.Common.{◌≡◌, ℕ, pos, negsuc, Bool, true, false, not, ◌&&◌, ◌||◌, [], ◌∷◌, Option, Some, None, refl, sym, ap, ◌∙◌}
use Rattle.std.specs.Prelude.{ℤ, if◌then◌else◌, option_map, option_and_then, unwrap_or, int_lt}
use Rattle.std.specs.Option.{option_map_or}
use Rattle.std.specs.Ordering.{int_eq}
use Rattle.rtx_tree.specs.declared.code.Code.{Code}
use Rattle.rtx_tree.specs.declared.code.Code.TheVariants as code
use Rattle.rtx_tree.specs.declared.code.Mode.{Mode}
use Rattle.rtx_tree.specs.declared.tree.Rtx.{Rtx, out-Rtx}
use Rattle.md_operand.specs.Operand.{is_constant, is_constant_code}
use Rattle.c_cond.specs.c_words.declared.head.Binary.TheVariants as op
use Rattle.c_cond.specs.c_words.declared.head.Unary.TheVariants.{Negative}
use Rattle.c_cond.specs.c_words.declared.head.Call.TheVariants as call
use Rattle.c_cond.specs.c_words.declared.head.CondHead.TheVariants as head
use Rattle.c_cond.specs.declared.tree.Tree.{Tree}
use Rattle.c_eval.specs.declared.reading.Reading.{Reading}
use Rattle.c_eval.specs.Numbers.{is_zero, truth, joined}
use Rattle.c_eval.specs.Value.{is_a, same_code, number_in, number_of, as_reading, under_test, read_by, in_range}
use Rattle.pred_expr.specs.declared.question.Question.TheVariants as question
use Rattle.pred_rows.specs.Tests.{Accepts, test_step, test_holds, condition_holds}
use Rattle.rtx_open.proofs.Conditions as conditions
use Rattle.rtx_open.proofs.Tests as tests
use Rattle.plain_forms.specs.Conditions as condition

-- ---- the number of a constant

pub is_a_constant : (c : Code) → same_code c code.ConstInt ≡ is_constant_code c
is_a_constant code.ConstInt = refl
is_a_constant _ = refl

-- a test of the number of a constant, which no other tree has
abbrev pub with_number : (ℤ → Bool) → Rtx → Bool
with_number p x = option_map_or p (number_in code.ConstInt x) false

-- an operand is a constant whose number passes a test
pub record IsConstantWith (p : ℤ → Bool) (x : Rtx) : Type 0 where
  pub constant : is_constant x ≡ true
  pub holds : p (out-Rtx x).number ≡ true

pub constant_with : (p : ℤ → Bool) (x : Rtx) → with_number p x ≡ true → IsConstantWith p x
constant_with p x is = go (is_a code.ConstInt x) refl is
  where
    go : (b : Bool) → is_a code.ConstInt x ≡ b → option_map_or p (if b then Some (out-Rtx x).number else None) false ≡ true → IsConstantWith p x
    go true here is = record { constant = sym (is_a_constant (out-Rtx x).code) ∙ here; holds = is }
    go false here is = absurd (let no : ⊥ = cc in no)

truth_is : (b : Bool) → not (is_zero (truth b)) ≡ b
truth_is true = refl
truth_is false = refl

-- ---- INTVAL (op) == 0

abbrev value_is_zero : conditions.Written
value_is_zero =
    conditions.node (head.Binary op.Equal) (conditions.with (conditions.node (head.Call call.Intval) (conditions.with (conditions.node (head.Operand 0) conditions.none) conditions.none))
    (conditions.with (conditions.node (head.Number (pos 0)) conditions.none) conditions.none))

-- what a reading is worth
abbrev worth_of : Reading → Bool
worth_of r = not (is_zero (unwrap_or (number_of r) (pos 0)))

equals_zero : (o : Option ℤ) → worth_of (as_reading (joined op.Equal (number_of (as_reading o)) (Some (pos 0)))) ≡ option_map_or (λ n. int_eq n (pos 0)) o false
equals_zero None = refl
equals_zero (Some n) = truth_is (int_eq n (pos 0))

pub value_zero : (x : Rtx) → condition_holds (condition.is_zero (condition.value 0)) x ≡ with_number (λ n. int_eq n (pos 0)) x
value_zero x = ap worth_of (conditions.reads (read_by (under_test x)) value_is_zero) ∙ equals_zero (number_in code.ConstInt x)

-- ival == 0
abbrev own_is_zero : conditions.Written
own_is_zero =
    conditions.node (head.Binary op.Equal) (conditions.with (conditions.node head.Ival conditions.none) (conditions.with (conditions.node (head.Number (pos 0)) conditions.none) conditions.none))

pub own_zero : (x : Rtx) → condition_holds (condition.is_zero condition.ival) x ≡ with_number (λ n. int_eq n (pos 0)) x
own_zero x = ap worth_of (conditions.reads (read_by (under_test x)) own_is_zero) ∙ equals_zero (number_in code.ConstInt x)

-- ---- IN_RANGE (ival, A, B)

-- from a number to another
abbrev pub is_in : ℤ → ℤ → ℤ → Bool
is_in least greatest n = not (int_lt n least) && not (int_lt greatest n)

abbrev between : conditions.Written → conditions.Written → conditions.Written
between a b = conditions.node (head.Call call.InRange) (conditions.with (conditions.node head.Ival conditions.none) (conditions.with a (conditions.with b conditions.none)))

in_range_of : Option ℤ → ℤ → ℤ → Option ℤ
in_range_of o low high = option_and_then (λ n. option_and_then (λ l. option_map (in_range n l) (Some high)) (Some low)) o

ranged : (least greatest : ℤ) (o : Option ℤ) → worth_of (as_reading (option_and_then (λ n. option_and_then (λ l. option_map (in_range n l) (Some greatest)) (Some least)) (number_of (as_reading o)))) ≡ option_map_or (is_in least greatest) o false
ranged least greatest None = refl
ranged least greatest (Some n) = truth_is (is_in least greatest n)

abbrev up_to : ℕ → conditions.Written
up_to greatest = between (conditions.node (head.Number (pos 0)) conditions.none) (conditions.node (head.Number (pos greatest)) conditions.none)

pub own_count : (greatest : ℕ) (x : Rtx) → condition_holds (condition.ranges (condition.number 0) (condition.number greatest)) x ≡ with_number (is_in (pos 0) (pos greatest)) x
own_count greatest x = ap worth_of (conditions.reads (read_by (under_test x)) (up_to greatest)) ∙ ranged (pos 0) (pos greatest) (number_in code.ConstInt x)

abbrev in_short : conditions.Written
in_short =
    between (conditions.node (head.Unary Negative) (conditions.with (conditions.node (head.Number (pos 2048)) conditions.none) conditions.none)) (conditions.node (head.Number (pos 2047)) conditions.none)

pub own_short : (x : Rtx) → condition_holds (condition.ranges (condition.minus 2048) (condition.number 2047)) x ≡ with_number (is_in (negsuc 2047) (pos 2047)) x
own_short x = ap worth_of (conditions.reads (read_by (under_test x)) in_short) ∙ ranged (negsuc 2047) (pos 2047) (number_in code.ConstInt x)

-- ---- (and (match_code "const_int") (match_test CONDITION))

abbrev written_constant : Tree → tests.Written
written_constant c =
    tests.node question.And (tests.with (tests.node (question.Codes (code.ConstInt ∷ [])) tests.none) (tests.with (tests.node (question.Condition c) tests.none) tests.none))

second : (p q : Bool) → (p && q) ≡ true → q ≡ true
second true q is = is
second false q is = cc

pub constant_test : (accepts : Accepts) (x : Rtx) (m : Mode) (c : Tree) → test_holds accepts x m (condition.constant_with c) ≡ true → condition_holds c x ≡ true
constant_test accepts x m c is =
    second (is_a code.ConstInt x || false) (condition_holds c x) (sym (tests.gathers (test_step accepts x m) (written_constant c)) ∙ is)
