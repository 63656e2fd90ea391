-- The tests of reservations: GCC Internals, "Specifying processor pipeline description" and
-- "Attribute Expressions". A test asks for the value of an attribute, or is made of two tests with
-- `and` or `ior`, or of one with `not`.
use Rattle.std.specs.Prelude.{ℕ, ◌==◌, Bool, false, not, List, [], ◌∷◌, Option, Some, None, if◌then◌else◌, codes, length, option_map, option_and_then}
use Rattle.std.specs.List.{list_all, list_any}
use Rattle.std.specs.Option.{option_map_or}
use Rattle.std.specs.Str.{bytes_eq}
use Rattle.lisp_read.specs.declared.tree.Tree.{Tree}
use Rattle.lisp_read.specs.declared.tree.Tree.TheOpen.{Tree-F}
use Rattle.lisp_read.specs.declared.tree.Tree.TheFolds.{fold-Tree}
use Rattle.lisp_read.specs.Shape.{atom_of, string_of, items_of}
use Rattle.lisp_read.specs.Expression.{inside_at, inside_of}
use Rattle.md_text.specs.Lists.{members, each}
use Rattle.md_forms.specs.declared.form.Entry.{Entry}
use Rattle.md_attr.specs.Values.{value_of}
use Rattle.md_dfa.specs.declared.test.Question.{Question}
use Rattle.md_dfa.specs.declared.test.Question.TheVariants as question
use Rattle.md_dfa.specs.declared.test.Test.{Test, roll-Test}
use Rattle.md_dfa.specs.declared.test.Test.TheOpen.{Test-F}
use Rattle.md_dfa.specs.declared.test.Test.TheFolds.{fold-Test}
use Rattle.md_dfa.specs.declared.test.TestKind.{TestKind}
use Rattle.md_dfa.specs.declared.test.TestKind.TheVariants as kind

abbrev pub test_with : Question → List Test → Test
test_with q parts = roll-Test (record { question = q; parts = parts })

-- ---- heads

unfoldable pub kind_of : List ℕ → Option TestKind
kind_of text = if bytes_eq text (codes "eq_attr") then Some kind.Equal
    else if bytes_eq text (codes "and") then Some kind.And
    else if bytes_eq text (codes "ior") then Some kind.Ior
    else if bytes_eq text (codes "not") then Some kind.Not
    else None

-- ---- the value of an attribute

abbrev pub equal_with : List ℕ → List ℕ → Test
equal_with name values = test_with (question.Equal name (members values)) []

-- "NAME" "VALUES"
unfoldable pub equal_in : List Tree → Option Test
equal_in (n ∷ v ∷ []) =
    option_and_then (λ name. option_map (equal_with name) (string_of v)) (string_of n)
equal_in _ = None

-- ---- tests of tests

unfoldable pub joined : Question → ℕ → List (Option Test) → Option Test
joined q count inside =
    if length inside == count then option_map (test_with q) (each (λ t. t) inside) else None

-- ---- a tree

unfoldable pub behind : TestKind → List Tree → List (Option Test) → Option Test
behind kind.Equal ts inside = equal_in ts
behind kind.And ts inside = joined question.And 2 inside
behind kind.Ior ts inside = joined question.Ior 2 inside
behind kind.Not ts inside = joined question.Not 1 inside

abbrev pub of_kind : Option TestKind → List Tree → List (Option Test) → Option Test
of_kind None ts inside = None
of_kind (Some k) ts inside = behind k ts inside

abbrev pub of_head : Option (List ℕ) → List Tree → List (Option Test) → Option Test
of_head None ts inside = None
of_head (Some text) ts inside = of_kind (kind_of text) ts inside

abbrev pub list_by : List Tree → List (Option Test) → Option Test
list_by (h ∷ ts) (x ∷ inside) = of_head (atom_of h) ts inside
list_by _ _ = None

-- each tree is handed to the one that reads it
abbrev pub each_read : List (Tree → Option Test) → List Tree → List (Option Test)
each_read (read ∷ reads) (t ∷ ts) = read t ∷ each_read reads ts
each_read _ _ = []

abbrev pub test_step : Tree-F (Tree → Option Test) → Tree → Option Test
test_step x t = list_by (items_of t) (each_read (inside_at x) (inside_of t))

-- the test that a tree writes, or none where it is outside
unfoldable pub test_of : Tree → Option Test
test_of t = fold-Tree (Tree → Option Test) test_step t t

-- ---- when a test holds

-- an attribute has one of some values in an alternative of a form; one that isn't defined has none
unfoldable pub has_value : List Entry → ℕ → ℕ → List ℕ → List (List ℕ) → Bool
has_value forms form alternative name values = option_map_or (λ value. list_any (λ v. bytes_eq v value) values) (value_of forms name form alternative) false

-- the answer to a question, with the answers to its parts
abbrev pub answer : List Entry → ℕ → ℕ → Question → List Bool → Bool
answer forms form alternative (question.Equal name values) parts =
    has_value forms form alternative name values
answer forms form alternative question.And parts = list_all (λ b. b) parts
answer forms form alternative question.Ior parts = list_any (λ b. b) parts
answer forms form alternative question.Not parts = not (list_any (λ b. b) parts)

abbrev pub holds_step : List Entry → ℕ → ℕ → Test-F Bool → Bool
holds_step forms form alternative t = answer forms form alternative t.question t.parts

-- whether a test holds in an alternative of a form
unfoldable pub test_holds : List Entry → ℕ → ℕ → Test → Bool
test_holds forms form alternative = fold-Test Bool (holds_step forms form alternative)
