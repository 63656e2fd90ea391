-- The conditions and the statements of forms by their texts: GCC Internals, "Defining RTL
-- Patterns", "Defining RTL Sequences for Code Generation" and "Defining Machine-Specific
-- Predicates". What a text is, the grammar of conditions and statements says (IsText of c_cond).
-- Here that is a value: the one tree that the grammar gives a text (Reading of c_cond, the type of
-- which says all), or the reason where it gives none. The clauses `grammar` of condition,
-- statements and test_of carry this (Says).
use Rattle.std.specs.Prelude.{◌≡◌, ◌↔◌, ℕ, pos, List, Result, Ok, Err}
use Rattle.rtx_tree.specs.declared.constants.Constant.{Constant}
use Rattle.c_cond.specs.c_words.declared.atom.Dialect.TheVariants as dialect
use Rattle.c_cond.specs.c_words.declared.head.CondHead.TheVariants as head
use Rattle.c_cond.specs.Grammar.{IsText, Condition, Statements}
use Rattle.c_cond.specs.Reading.{Reading}
use Rattle.c_cond.specs.declared.tree.Tree.{Tree}
use Rattle.c_cond.specs.Tree.{leaf}
use Rattle.c_cond.proofs.Readings as reading
use Rattle.md_pattern.specs.declared.reason.Reason.{Reason}
use Rattle.md_pattern.specs.declared.reason.Reason.TheVariants as reason
use Rattle.md_pattern.specs.Pattern.{or_aside}

-- A value says which trees there are: it is a tree exactly where this is one, so that there is no
-- other, and the reason exactly where there is none.
pub record Says (r : Reason) (IsTree : Tree → Type 0) (value : Result Tree Reason) : Type 0 where
  pub tree : (t : Tree) → (value ≡ Ok t) ↔ IsTree t
  pub aside : (value ≡ Err r) ↔ ((t : Tree) → IsTree t → ⊥)

-- a text as a condition, as one in the test of a predicate, and as statements
abbrev pub as_condition : (constants : List Constant) (text : List ℕ) → Reading (IsText dialect.Condition constants Condition text)
as_condition = reading.condition dialect.Condition

abbrev pub as_test_condition : (constants : List Constant) (text : List ℕ) → Reading (IsText dialect.Test constants Condition text)
as_test_condition = reading.condition dialect.Test

abbrev pub as_statements : (constants : List Constant) (text : List ℕ) → Reading (IsText dialect.Condition constants Statements text)
as_statements = reading.statements dialect.Condition

-- the condition that a text is
abbrev pub condition_of : List Constant → List ℕ → Result Tree Reason
condition_of constants text = or_aside reason.Condition (as_condition constants text).value

-- the condition that a text is in the test of a predicate
abbrev pub test_condition_of : List Constant → List ℕ → Result Tree Reason
test_condition_of constants text = or_aside reason.Condition (as_test_condition constants text).value

-- the statements that a text is
abbrev pub statements_of : List Constant → List ℕ → Result Tree Reason
statements_of constants text = or_aside reason.Statements (as_statements constants text).value

-- what no text is: a condition that is always true, and no statement
abbrev pub always : Tree
always = leaf (head.Number (pos 1))

abbrev pub nothing : Tree
nothing = leaf head.Nothing
