-- The numbers in a test, by its question and its parts.
use Rattle.std.proofs.Common.{◌≡◌, ℤ, List, ◌++◌, ap, ◌∙◌, append_assoc}
use Rattle.std.proofs.lemmas.List.Folds.{flat_map-map}
use Rattle.std.specs.List.{flat_map}
use Rattle.pred_expr.specs.declared.question.Test.{Test, out-Test}
use Rattle.pred_expr.specs.declared.question.Test.TheFolds.{fold_out-Test}
use Rattle.lint_tried.specs.Numbers.{question_numbers, test_step, test_numbers}

numbers_out : (t : Test) → test_numbers t ≡ question_numbers (out-Test t).question ++ flat_map test_numbers (out-Test t).parts
numbers_out t = fold_out-Test (List ℤ) test_step t ∙ ap (λ (rest : List ℤ). question_numbers (out-Test t).question ++ rest) (flat_map-map (λ (numbers : List ℤ). numbers) test_numbers (out-Test t).parts)

-- those of the question were appended
pub test_pushed : (t : Test) (old numbers : List ℤ) (parts : List Test) → numbers ≡ old ++ question_numbers (out-Test t).question → parts ≡ (out-Test t).parts → numbers ++ flat_map test_numbers parts ≡ old ++ test_numbers t
test_pushed t old numbers parts made is = rw made (rw is (rw (numbers_out t) (append_assoc old (question_numbers (out-Test t).question) (flat_map test_numbers (out-Test t).parts))))
