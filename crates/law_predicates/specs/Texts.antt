-- What the texts of conditions and statements are: the trees that the grammar of c_cond gives them.
-- These are laws of the definitions of pred_expr, which compute.
use Rattle.std.specs.Prelude.{ℕ, List}
use Rattle.rtx_tree.specs.declared.constants.Constant.{Constant}
use Rattle.c_words.specs.declared.atom.Dialect.{Dialect}
use Rattle.c_words.specs.declared.atom.Dialect.TheVariants as dialect
use Rattle.c_cond.specs.Grammar.{Sort, IsText, Condition, Statements}
use Rattle.md_pattern.specs.declared.reason.Reason.TheVariants as reason
use Rattle.c_cond.specs.Reading.{OneReading}
use Rattle.pred_expr.specs.Texts.{Says, condition_of, test_condition_of, statements_of}

-- What a text is read as is the tree that the grammar gives it, and there is no other; it is set
-- aside exactly where the grammar gives it none. So it is with the conditions of forms, with those
-- in the tests of predicates, and with statements.
pub record TextsAreRead (constants : List Constant) : Type 0 where
  pub one : (d : Dialect) (sort : Sort) (text : List ℕ) → OneReading (IsText d constants sort text)
  pub conditions : (text : List ℕ) →
      Says reason.Condition (IsText dialect.Condition constants Condition text)
      (condition_of constants text)
  pub tests : (text : List ℕ) →
      Says reason.Condition (IsText dialect.Test constants Condition text)
      (test_condition_of constants text)
  pub statements : (text : List ℕ) →
      Says reason.Statements (IsText dialect.Condition constants Statements text)
      (statements_of constants text)
