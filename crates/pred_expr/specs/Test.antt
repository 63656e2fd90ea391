-- The tests of predicates and constraints: GCC Internals, "Defining Machine-Specific Predicates"
-- and "Defining Machine-Specific Constraints". A test is made of questions on the operand with
-- `and`, `ior`, `not` and `if_then_else`.
use Rattle.std.specs.Prelude.{◌≡◌, ℕ, ◌==◌, List, [], ◌∷◌, ◌++◌, Option, Some, None, Result, Ok, Err, if◌then◌else◌, length, codes, option_and_then}
use Rattle.std.specs.List.{flat_map}
use Rattle.std.specs.Str.{bytes_eq}
use Rattle.rtx_tree.specs.declared.code.Code.{Code}
use Rattle.rtx_tree.specs.declared.code.Code.TheVariants.{MatchOperand}
use Rattle.rtx_tree.specs.declared.code.Mode.{Mode}
use Rattle.rtx_tree.specs.declared.constants.Constant.{Constant}
use Rattle.c_cond.specs.c_words.declared.atom.Dialect.TheVariants as dialect
use Rattle.c_cond.specs.declared.tree.Tree as c_tree
use Rattle.c_cond.specs.Grammar.{IsText, Condition}
use Rattle.md_pattern.specs.lisp_read.declared.tree.Tree.{Tree}
use Rattle.md_pattern.specs.lisp_read.declared.tree.Tree.TheOpen.{Tree-F}
use Rattle.md_pattern.specs.lisp_read.declared.tree.Tree.TheFolds.{fold-Tree}
use Rattle.md_pattern.specs.lisp_read.Shape.{atom_of, string_of, items_of}
use Rattle.md_pattern.specs.lisp_read.Head.{code_of_head, mode_of_head}
use Rattle.md_pattern.specs.lisp_read.Expression.{inside_at, inside_of}
use Rattle.md_text.specs.Lists.{members}
use Rattle.md_text.specs.Lists as lists
use Rattle.md_pattern.specs.declared.reason.Reason.{Reason}
use Rattle.md_pattern.specs.declared.reason.Reason.TheVariants as reason
use Rattle.md_pattern.specs.Reason.{judged_with, judged_map}
use Rattle.md_pattern.specs.HasReason.{IsList}
use Rattle.md_pattern.specs.Operand.{number_in}
use Rattle.md_pattern.specs.Pattern.{or_aside}
use Rattle.pred_expr.specs.declared.question.Question.{Question}
use Rattle.pred_expr.specs.declared.question.Question.TheVariants as question
use Rattle.pred_expr.specs.declared.question.Test.{Test, roll-Test}
use Rattle.pred_expr.specs.declared.question.Test.TheOpen.{Test-F}
use Rattle.pred_expr.specs.declared.question.Test.TheFolds.{fold-Test}
use Rattle.pred_expr.specs.declared.test.TestKind.{TestKind}
use Rattle.pred_expr.specs.declared.test.TestKind.TheVariants as kind
use Rattle.pred_expr.specs.Texts.{test_condition_of}
use Rattle.rtx_tree.specs.Code.{code_in}

abbrev pub test_with : Question → List Test → Test
test_with q parts = roll-Test (record { question = q; parts = parts })

-- a question that is no part of others
abbrev pub alone : Question → Test
alone q = test_with q []

-- ---- heads

abbrev pub is_operand : Code → Option TestKind
is_operand MatchOperand = Some kind.Predicate
is_operand _ = None

-- `match_operand` may have a mode
abbrev pub kind_of : List ℕ → Option TestKind
kind_of text = if bytes_eq text (codes "match_code") then Some kind.Codes
    else if bytes_eq text (codes "match_test") then Some kind.Condition
    else if bytes_eq text (codes "and") then Some kind.And
    else if bytes_eq text (codes "ior") then Some kind.Ior
    else if bytes_eq text (codes "not") then Some kind.Not
    else if bytes_eq text (codes "if_then_else") then Some kind.IfThenElse
    else option_and_then is_operand (code_of_head text)

-- ---- questions

-- a string alone
abbrev pub text_in : List Tree → Option (List ℕ)
text_in (s ∷ []) = string_of s
text_in _ = None

-- codes by their names, with commas between them
abbrev pub codes_in : List ℕ → Option (List Code)
codes_in text = lists.each code_in (members text)

abbrev pub codes_by : Option (List ℕ) → Result Test Reason
codes_by None = Err reason.Parts
codes_by (Some text) =
    judged_map (λ cs. alone (question.Codes cs)) (or_aside reason.Code (codes_in text))

abbrev pub condition_by : List Constant → Option (List ℕ) → Result Test Reason
condition_by constants None = Err reason.Parts
condition_by constants (Some text) =
    judged_map (λ c. alone (question.Condition c)) (test_condition_of constants text)

-- the predicate of an operand, whatever the operand's number
abbrev pub predicate_behind : Tree → Tree → Option (List ℕ)
predicate_behind n p = option_and_then (λ k. string_of p) (number_in n)

-- a constraint may stand behind it, whatever it is
abbrev pub predicate_in : List Tree → Option (List ℕ)
predicate_in (n ∷ p ∷ []) = predicate_behind n p
predicate_in (n ∷ p ∷ k ∷ []) = option_and_then (λ constraint. predicate_behind n p) (string_of k)
predicate_in _ = None

abbrev pub predicate_by : Option Mode → Option (List ℕ) → Result Test Reason
predicate_by m None = Err reason.Parts
predicate_by m (Some name) =
    judged_map (λ mode. alone (question.Predicate name mode)) (or_aside reason.Mode m)

-- ---- tests of tests

abbrev pub each : List (Result Test Reason) → Result (List Test) Reason
each [] = Ok []
each (t ∷ ts) = judged_with (λ x xs. x ∷ xs) t (each ts)

abbrev pub joined : Question → ℕ → List (Result Test Reason) → Result Test Reason
joined q count inside =
    if length inside == count then judged_map (test_with q) (each inside) else Err reason.Parts

-- ---- a tree

abbrev pub behind : List Constant → TestKind → Option Mode → List Tree → List (Result Test Reason) →
    Result Test Reason
behind constants kind.Codes m ts inside = codes_by (text_in ts)
behind constants kind.Condition m ts inside = condition_by constants (text_in ts)
behind constants kind.Predicate m ts inside = predicate_by m (predicate_in ts)
behind constants kind.And m ts inside = joined question.And 2 inside
behind constants kind.Ior m ts inside = joined question.Ior 2 inside
behind constants kind.Not m ts inside = joined question.Not 1 inside
behind constants kind.IfThenElse m ts inside = joined question.IfThenElse 3 inside

abbrev pub of_kind : List Constant → Option TestKind → Option Mode → List Tree →
    List (Result Test Reason) → Result Test Reason
of_kind constants None m ts inside = Err reason.Parts
of_kind constants (Some k) m ts inside = behind constants k m ts inside

abbrev pub of_head : List Constant → Option (List ℕ) → List Tree → List (Result Test Reason) →
    Result Test Reason
of_head constants None ts inside = Err reason.Parts
of_head constants (Some text) ts inside =
    of_kind constants (kind_of text) (mode_of_head text) ts inside

abbrev pub list_by : List Constant → List Tree → List (Result Test Reason) → Result Test Reason
list_by constants (h ∷ ts) (x ∷ inside) = of_head constants (atom_of h) ts inside
list_by constants _ _ = Err reason.Parts

-- each tree is handed to the one that reads it
abbrev pub each_read : List (Tree → Result Test Reason) → List Tree → List (Result Test Reason)
each_read (read ∷ reads) (t ∷ ts) = read t ∷ each_read reads ts
each_read _ _ = []

abbrev pub test_step : List Constant → Tree-F (Tree → Result Test Reason) → Tree →
    Result Test Reason
test_step constants x t = list_by constants (items_of t) (each_read (inside_at x) (inside_of t))

-- the test that a tree writes, or the smallest of the reasons that it has (HasReason)
unfoldable pub test_of : List Constant → Tree → Result Test Reason
test_of constants t = fold-Tree (Tree → Result Test Reason) (test_step constants) t t

-- ---- what a test is

-- The tree is this test. One case for each word that may stand at its head; what the text of a
-- match_test is, the grammar of conditions says. That test_of gives this test is a clause.
pub data IsTest (constants : List Constant) : Tree → Test → Type 0 where
  of_codes : (t : Tree) (word : List ℕ) (ts : List Tree) (text : List ℕ) (cs : List Code) →
      IsList t word ts → kind_of word ≡ Some kind.Codes →
      text_in ts ≡ Some text → codes_in text ≡ Some cs →
      IsTest constants t (alone (question.Codes cs))
  of_condition : (t : Tree) (word : List ℕ) (ts : List Tree) (text : List ℕ) (c : c_tree.Tree) →
      IsList t word ts → kind_of word ≡ Some kind.Condition →
      text_in ts ≡ Some text → IsText dialect.Test constants Condition text c →
      IsTest constants t (alone (question.Condition c))
  of_predicate : (t : Tree) (word : List ℕ) (ts : List Tree) (name : List ℕ) (m : Mode) →
      IsList t word ts → kind_of word ≡ Some kind.Predicate →
      predicate_in ts ≡ Some name → mode_of_head word ≡ Some m →
      IsTest constants t (alone (question.Predicate name m))
  of_both : (t : Tree) (word : List ℕ) (a b : Tree) (x y : Test) →
      IsList t word (a ∷ b ∷ []) → kind_of word ≡ Some kind.And →
      IsTest constants a x → IsTest constants b y →
      IsTest constants t (test_with question.And (x ∷ y ∷ []))
  of_either : (t : Tree) (word : List ℕ) (a b : Tree) (x y : Test) →
      IsList t word (a ∷ b ∷ []) → kind_of word ≡ Some kind.Ior →
      IsTest constants a x → IsTest constants b y →
      IsTest constants t (test_with question.Ior (x ∷ y ∷ []))
  of_not : (t : Tree) (word : List ℕ) (a : Tree) (x : Test) → IsList t word (a ∷ []) →
      kind_of word ≡ Some kind.Not →
      IsTest constants a x → IsTest constants t (test_with question.Not (x ∷ []))
  of_choice : (t : Tree) (word : List ℕ) (a b c : Tree) (x y z : Test) →
      IsList t word (a ∷ b ∷ c ∷ []) → kind_of word ≡ Some kind.IfThenElse →
      IsTest constants a x → IsTest constants b y → IsTest constants c z →
      IsTest constants t (test_with question.IfThenElse (x ∷ y ∷ z ∷ []))

-- ---- what a test names

abbrev pub predicate_of : Question → List (List ℕ)
predicate_of (question.Predicate name m) = name ∷ []
predicate_of _ = []

abbrev pub predicates_step : Test-F (List (List ℕ)) → List (List ℕ)
predicates_step x = predicate_of x.question ++ flat_map (λ names. names) x.parts

-- the predicates that a test names, in the order of the text
abbrev pub predicates_of : Test → List (List ℕ)
predicates_of = fold-Test (List (List ℕ)) predicates_step
