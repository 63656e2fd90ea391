-- Forms that define the predicates and constraints of the plain forms as these do: GCC Internals,
-- "Defining Machine-Specific Predicates" and "Defining Machine-Specific Constraints".
use Rattle.std.specs.Prelude.{◌≡◌, ℕ, List, Some, find, codes}
use Rattle.md_forms.specs.declared.form.Entry.{Entry}
use Rattle.md_forms.specs.md_tables.Tables.{defines_constraint}
use Rattle.pred_expr.specs.declared.question.Test.{Test}
use Rattle.md_constr.specs.md_attr.Alternatives.{definition_of}
use Rattle.md_pred.specs.Holds.{defines}
use Rattle.plain_forms.specs.Conditions as condition
use Rattle.plain_forms.specs.Makers.{constraint, predicate}

-- the first definition of a predicate has this test
abbrev pub HasPredicate : List Entry → List ℕ → Test → Type 0
HasPredicate forms name test = find (defines name) forms ≡ Some (predicate name test)

-- and of a constraint
abbrev pub HasConstraint : List Entry → List ℕ → Test → Type 0
HasConstraint forms name test = definition_of defines_constraint forms name ≡ Some (constraint name test)

-- a constant from a number to another
abbrev pub is_from_0_to : ℕ → Test
is_from_0_to greatest = condition.constant_with (condition.ranges (condition.number 0) (condition.number greatest))

pub record HavePlain (forms : List Entry) : Type 0 where
  pub register_or_0 : HasPredicate forms (codes "reg_or_0_operand") condition.register_or_zero
  pub register_or_int : HasPredicate forms (codes "reg_or_int_operand") condition.register_or_int
  pub called : HasPredicate forms (codes "call_operand") condition.register_or_symbol
  pub short : HasConstraint forms (codes "I") (condition.constant_with (condition.ranges (condition.minus 2048) (condition.number 2047)))
  pub zero : HasConstraint forms (codes "J") (condition.constant_with (condition.is_zero condition.ival))
  pub count_32 : HasConstraint forms (codes "K") (is_from_0_to 31)
  pub count_64 : HasConstraint forms (codes "L") (is_from_0_to 63)
