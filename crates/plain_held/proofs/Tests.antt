-- Tests by their questions and parts.
use Rattle.std.proofs.Common.{◌≡◌, List, [], sym, ap, ◌∙◌, rules, Option, Some}
use Rattle.pred_expr.specs.declared.question.Question.{Question}
use Rattle.pred_expr.specs.declared.question.Test.{Test, out-Test}
use Rattle.pred_expr.specs.declared.question.Test.TheViews.{the_lemmas}
use Rattle.pred_expr.specs.Test.{alone, test_with}

abbrev question_of : Test → Question
question_of t = (out-Test t).question

abbrev parts_of : Test → List Test
parts_of t = (out-Test t).parts

-- a test is made of its question and parts
made_of : (t : Test) → test_with (question_of t) (parts_of t) ≡ t
made_of t = search (rules, the_lemmas)

pub question_with : (q : Question) (parts : List Test) → question_of (test_with q parts) ≡ q
question_with q parts = search (rules, the_lemmas)

pub parts_with : (q : Question) (parts : List Test) → parts_of (test_with q parts) ≡ parts
parts_with q parts = search (rules, the_lemmas)

-- a test with a question and parts is that of these
pub test_is : (t : Test) (q : Question) (parts : List Test) → question_of t ≡ q → parts_of t ≡ parts → t ≡ test_with q parts
test_is t q parts a b = sym (made_of t) ∙ ap (λ x. test_with x (parts_of t)) a ∙ ap (test_with q) b

-- and has them
pub has_question : (t : Test) (q : Question) (parts : List Test) → t ≡ test_with q parts → question_of t ≡ q
has_question t q parts is = ap question_of is ∙ question_with q parts

pub has_parts : (t : Test) (q : Question) (parts : List Test) → t ≡ test_with q parts → parts_of t ≡ parts
has_parts t q parts is = ap parts_of is ∙ parts_with q parts

pub alone_is : (t : Test) (q : Question) → parts_of t ≡ [] → question_of t ≡ q → t ≡ alone q
alone_is t q p e = test_is t q [] e p

pub alone_question : (t : Test) (q : Question) → t ≡ alone q → question_of t ≡ q
alone_question t q is = has_question t q [] is

pub alone_parts : (t : Test) (q : Question) → t ≡ alone q → parts_of t ≡ []
alone_parts t q is = has_parts t q [] is

pub some_of : (a b : Test) → ◌≡◌ {A = Option Test} (Some a) (Some b) → a ≡ b
some_of a b is = cc
