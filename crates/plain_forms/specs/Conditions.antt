-- The conditions, the tests and the preparation statements of the plain forms, as trees. GCC
-- Internals, "Defining RTL Patterns", "Defining RTL Sequences for Code Generation", "Defining
-- Machine-Specific Predicates" and "Defining Machine-Specific Constraints".
use Rattle.std.specs.Prelude.{ℕ, pos, List, [], ◌∷◌, codes}
use Rattle.rtx_tree.specs.declared.code.Code.{Code}
use Rattle.rtx_tree.specs.declared.code.Code.TheVariants.{ConstInt, SymbolRef}
use Rattle.rtx_tree.specs.declared.code.Mode.{Mode}
use Rattle.rtx_tree.specs.declared.code.Mode.TheVariants.{Void, DI}
use Rattle.c_cond.specs.c_words.declared.head.Binary.{Binary}
use Rattle.c_cond.specs.c_words.declared.head.Binary.TheVariants as op
use Rattle.c_cond.specs.c_words.declared.head.Unary.TheVariants.{Not, Negative}
use Rattle.c_cond.specs.c_words.declared.head.Call.{Call}
use Rattle.c_cond.specs.c_words.declared.head.Call.TheVariants as call
use Rattle.c_cond.specs.c_words.declared.head.CondHead.TheVariants as head
use Rattle.c_cond.specs.declared.tree.Tree.{Tree}
use Rattle.c_cond.specs.Tree.{node, leaf, both}
use Rattle.pred_expr.specs.declared.question.Question.TheVariants as question
use Rattle.pred_expr.specs.declared.question.Test.{Test}
use Rattle.pred_expr.specs.Test.{alone, test_with}
use Rattle.pred_expr.specs.Texts.{nothing}

-- ---- what conditions are made of

abbrev pub number : ℕ → Tree
number n = leaf (head.Number (pos n))

abbrev pub minus : ℕ → Tree
minus n = node (head.Unary Negative) (number n ∷ [])

abbrev pub on_two : Binary → Tree → Tree → Tree
on_two o a b = node (head.Binary o) (a ∷ b ∷ [])

-- !A
abbrev pub not : Tree → Tree
not a = node (head.Unary Not) (a ∷ [])

-- operands[K]
abbrev pub operand : ℕ → Tree
operand k = leaf (head.Operand k)

-- CALL (A)
abbrev pub on_one : Call → Tree → Tree
on_one c a = node (head.Call c) (a ∷ [])

-- INTVAL (operands[K])
abbrev pub value : ℕ → Tree
value k = on_one call.Intval (operand k)

-- IN_RANGE (A, B, C)
abbrev pub within : Tree → Tree → Tree → Tree
within a b c = node (head.Call call.InRange) (a ∷ b ∷ c ∷ [])

-- PREDICATE (operands[K], MODE)
abbrev pub holds : List ℕ → ℕ → Mode → Tree
holds name k m = node (head.Predicate name) (operand k ∷ leaf (head.Mode m) ∷ [])

-- ---- conditions

-- register_operand (operands[0], MODE) || reg_or_0_operand (operands[1], MODE)
abbrev pub moves : Mode → Tree
moves m = on_two op.Or (holds (codes "register_operand") 0 m) (holds (codes "reg_or_0_operand") 1 m)

-- INTVAL (operands[2]) == 65535
abbrev pub is_short_mask : Tree
is_short_mask = on_two op.Equal (value 2) (number 65535)

-- INTVAL (operands[2]) == 65535 || INTVAL (operands[2]) == 4294967295
abbrev pub is_mask : Tree
is_mask = on_two op.Or is_short_mask (on_two op.Equal (value 2) (number 4294967295))

-- && 1
abbrev pub is_split : Tree
is_split = both is_mask (number 1)

-- INTVAL (operands[1]) + INTVAL (operands[2])
abbrev pub sum : Tree
sum = on_two op.Plus (value 1) (value 2)

-- -2048 to 2047
abbrev pub short : Tree → Tree
short a = within a (minus 2048) (number 2047)

-- REGNO (operands[0]) != SP_REGNUM && IN_RANGE (INTVAL (operands[1]) + INTVAL (operands[2]), -2048, 2047)
abbrev pub are_added : Tree
are_added = both (on_two op.Unequal (on_one call.Regno (operand 0)) (number 2)) (short sum)

-- ---- statements

-- one statement
abbrev pub only : Tree → Tree
only a = node head.Then (a ∷ nothing ∷ [])

-- operands[K] = X;
abbrev pub assign : ℕ → Tree → Tree
assign k x = node (head.Assign k) (x ∷ [])

abbrev pub mode : Mode → Tree
mode m = leaf (head.Mode m)

-- force_reg (MODE, operands[1])
abbrev pub forced : Mode → Tree
forced m = node (head.Call call.ForceReg) (mode m ∷ operand 1 ∷ [])

-- if (!register_operand (operands[0], MODE) && !reg_or_0_operand (operands[1], MODE))
--   operands[1] = force_reg (MODE, operands[1]);
abbrev pub forces : Mode → Tree
forces m =
    only (node head.If (both (not (holds (codes "register_operand") 0 m)) (not (holds (codes "reg_or_0_operand") 1 m)) ∷ assign 1 (forced m) ∷ []))

-- operands[3] = GEN_INT (A);
abbrev pub makes : Tree → Tree
makes a = only (assign 3 (on_one call.GenInt a))

-- operands[3] = GEN_INT (INTVAL (operands[2]) == 65535 ? 48 : 32);
abbrev pub makes_count : Tree
makes_count = makes (node head.Choose (is_short_mask ∷ number 48 ∷ number 32 ∷ []))

-- operands[3] = GEN_INT (INTVAL (operands[1]) + INTVAL (operands[2]));
abbrev pub makes_sum : Tree
makes_sum = makes sum

-- operands[K] = gen_reg_rtx (DImode);
abbrev pub makes_register : ℕ → Tree
makes_register k = assign k (on_one call.GenReg (mode DI))

-- operands[4] = gen_reg_rtx (DImode); operands[5] = gen_reg_rtx (DImode);
abbrev pub makes_registers : Tree
makes_registers = node head.Then (makes_register 4 ∷ only (makes_register 5) ∷ [])

-- ---- tests

-- (match_code CODE)
abbrev pub has_code : Code → Test
has_code c = alone (question.Codes (c ∷ []))

-- (match_operand 0 PREDICATE)
abbrev pub accepted : List ℕ → Test
accepted name = alone (question.Predicate name Void)

-- (and A B), (ior A B)
abbrev pub all : Test → Test → Test
all a b = test_with question.And (a ∷ b ∷ [])

abbrev pub any : Test → Test → Test
any a b = test_with question.Ior (a ∷ b ∷ [])

-- (and (match_code "const_int") (match_test CONDITION))
abbrev pub constant_with : Tree → Test
constant_with condition = all (has_code ConstInt) (alone (question.Condition condition))

-- IN_RANGE (ival, A, B)
abbrev pub ranges : Tree → Tree → Tree
ranges a b = within (leaf head.Ival) a b

-- ival == 0, INTVAL (op) == 0
abbrev pub is_zero : Tree → Tree
is_zero a = on_two op.Equal a (number 0)

abbrev pub register_or_zero : Test
register_or_zero = any (accepted (codes "register_operand")) (constant_with (is_zero (value 0)))

abbrev pub register_or_int : Test
register_or_int = any (accepted (codes "register_operand")) (accepted (codes "const_int_operand"))

abbrev pub register_or_symbol : Test
register_or_symbol = any (accepted (codes "register_operand")) (has_code SymbolRef)

-- ival: the number of the operand under test
abbrev pub ival : Tree
ival = leaf head.Ival
