-- What is looked for in the trees within a tree, and the first of it.
use Rattle.std.specs.Prelude.{ℕ, ◌==◌, Bool, false, List, [], ◌∷◌, ◌++◌, Option, Some, None, Result, Ok, Err, if◌then◌else◌, codes, option_map, option_and_then}
use Rattle.std.specs.Option.{option_or, unwrap_or}
use Rattle.rtx_tree.specs.declared.constants.Constant.{Constant}
use Rattle.rtx_tree.specs.declared.place.Place.{Place}
use Rattle.lisp_read.specs.declared.tree.Tree.{Tree, out-Tree}
use Rattle.lisp_read.specs.declared.tree.Tree.TheOpen.{Tree-F}
use Rattle.lisp_read.specs.declared.tree.Tree.TheFolds.{fold-Tree}
use Rattle.lisp_read.specs.Shape.{place_of, string_of, items_of, is_text, is_word}
use Rattle.lisp_read.specs.Expression.{inside_at, inside_of}
use Rattle.md_pattern.specs.declared.reason.Reason.{Reason}
use Rattle.md_pattern.specs.Reason.{number_of}
use Rattle.md_pattern.specs.Pattern.{pattern_of}
use Rattle.pred_expr.specs.Test.{test_of}
use Rattle.md_draft.specs.Draft.{head_in}
use Rattle.c_stops.specs.declared.stop.Grammar.{Grammar}
use Rattle.c_stops.specs.declared.stop.Grammar.TheVariants as grammar
use Rattle.c_stops.proofs.Stops.{stop}
use Rattle.lint_about.specs.declared.about.About.{About}
use Rattle.lint_about.specs.declared.sought.Sought.{Sought}
use Rattle.lint_about.specs.declared.sought.Sought.TheVariants as sought
use Rattle.lint_about.specs.About.{told, line_of}

-- ---- the trees within a tree

-- each tree is handed to the one that goes through it
abbrev pub each_gone : List (Tree → List Tree) → List Tree → List Tree
each_gone (go ∷ goes) (t ∷ ts) = go t ++ each_gone goes ts
each_gone _ _ = []

abbrev pub within_step : Tree-F (Tree → List Tree) → Tree → List Tree
within_step x t = each_gone (inside_at x) (inside_of t) ++ t ∷ []

-- the trees within a tree and the tree itself, each behind those within it
unfoldable pub within : Tree → List Tree
within t = fold-Tree (Tree → List Tree) within_step t t

-- the first thing that is found in some
abbrev pub first_found : {A B : Type 0} → (A → Option B) → List A → Option B
first_found look [] = None
first_found look (x ∷ xs) = option_or (look x) (first_found look xs)

-- ---- a text

abbrev pub text_at : Tree-F Tree → Option (List ℕ)
text_at (Tree-F.Atom place text) = Some text
text_at (Tree-F.Str place text) = Some text
text_at (Tree-F.Block place text) = Some text
text_at _ = None

-- an atom, or what stands in quotes or braces, that is this text
abbrev pub placed : List ℕ → Tree → Option Place
placed text t = if is_text text (text_at (out-Tree t)) then Some (place_of t) else None

unfoldable pub place_within : List ℕ → Tree → Option Place
place_within text t = first_found (placed text) (within t)

-- where a text stands in a tree first; where the tree does, if it stands nowhere in it
abbrev pub place_in : Tree → List ℕ → Place
place_in t text = unwrap_or (place_within text t) (place_of t)

-- ---- a tree with a reason

abbrev pub has : {A : Type 0} → Reason → Result A Reason → Bool
has r (Ok x) = false
has r (Err other) = number_of other == number_of r

-- a list is told by the word at its head
abbrev pub by_word : Tree → Bool → Option About
by_word t found = if found then option_map (told (place_of t)) (head_in (items_of t)) else None

-- ---- a text of C that is none

-- the line on which a quoted text stops being one of the grammar, if it does
abbrev pub stops_in : List Constant → Grammar → Tree → List ℕ → Option About
stops_in constants g quote text =
    option_map (line_of (place_of quote) text) (stop g constants text).value

-- the same of a string
abbrev pub string_stops : List Constant → Grammar → Tree → Option About
string_stops constants g quote = option_and_then (stops_in constants g quote) (string_of quote)

-- (match_test "CONDITION")
abbrev pub test_stops : List Constant → List Tree → Option About
test_stops constants (head ∷ text ∷ []) =
    if is_word (codes "match_test") head then string_stops constants grammar.Test text else None
test_stops constants _ = None

-- ---- the first tree

-- what is told of a tree by itself, if it is what is sought
abbrev pub found_at : List Constant → Sought → Tree → Option About
found_at constants (sought.Pattern r) t = by_word t (has r (pattern_of constants t))
found_at constants (sought.Test r) t = by_word t (has r (test_of constants t))
found_at constants sought.Condition t = test_stops constants (items_of t)

-- the first within a tree, where one within another comes before it
unfoldable pub first_in : List Constant → Sought → Tree → Option About
first_in constants s t = first_found (found_at constants s) (within t)
