-- The numbers that a description compares with: those that stand in the tests of its predicates and
-- constraints (GCC Internals, "Defining Machine-Specific Predicates" and "Defining Machine-Specific
-- Constraints"), and those in a form's own condition and statements.
use Rattle.std.specs.Prelude.{ℤ, List, [], ◌∷◌, ◌++◌, Option, Some, None, Result, Ok, Err}
use Rattle.std.specs.List.{flat_map}
use Rattle.c_cond.specs.c_words.declared.head.CondHead.{CondHead}
use Rattle.c_cond.specs.c_words.declared.head.CondHead.TheVariants as head
use Rattle.c_cond.specs.declared.tree.Tree.{Tree}
use Rattle.c_cond.specs.Tree.{heads_of}
use Rattle.pred_expr.specs.declared.question.Question.{Question}
use Rattle.pred_expr.specs.declared.question.Question.TheVariants as question
use Rattle.pred_expr.specs.declared.question.Test.{Test}
use Rattle.pred_expr.specs.declared.question.Test.TheOpen.{Test-F}
use Rattle.pred_expr.specs.declared.question.Test.TheFolds.{fold-Test}
use Rattle.md_forms.specs.md_pattern.declared.reason.Reason.{Reason}
use Rattle.md_forms.specs.declared.form.Form.{Form}
use Rattle.md_forms.specs.declared.form.Entry.{Entry}

-- ---- in conditions

abbrev pub head_numbers : CondHead → List ℤ
head_numbers (head.Number n) = n ∷ []
head_numbers _ = []

abbrev pub condition_numbers : Tree → List ℤ
condition_numbers condition = flat_map head_numbers (heads_of condition)

-- those of the form's own condition and statements
abbrev pub own_numbers : Form → List ℤ
own_numbers f = condition_numbers f.condition ++ condition_numbers f.statements

-- ---- in tests

abbrev pub question_numbers : Question → List ℤ
question_numbers (question.Condition condition) = condition_numbers condition
question_numbers _ = []

abbrev pub test_step : Test-F (List ℤ) → List ℤ
test_step x = question_numbers x.question ++ flat_map (λ numbers. numbers) x.parts

abbrev pub test_numbers : Test → List ℤ
test_numbers = fold-Test (List ℤ) test_step

abbrev pub tested_by : Option Test → List ℤ
tested_by None = []
tested_by (Some test) = test_numbers test

abbrev pub tested_as : Result Form Reason → List ℤ
tested_as (Ok f) = tested_by f.test
tested_as (Err reason) = []

abbrev pub tested_in : Entry → List ℤ
tested_in e = tested_as e.form

-- the numbers in the tests of a description
abbrev pub tested_numbers : List Entry → List ℤ
tested_numbers forms = flat_map tested_in forms
