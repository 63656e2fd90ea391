-- The text of a tree on one line, and when it is read back as that tree.
use Rattle.std.specs.Prelude.{◌≡◌, ◌≤◌, ℕ, suc, max, List, [], ◌∷◌, ◌++◌, map, flat_map, drop}
use Rattle.rtx_tree.specs.declared.place.Place.{Place}
use Rattle.lisp_read.specs.declared.class.Bracket.{Bracket}
use Rattle.lisp_read.specs.declared.class.Bracket.TheVariants.{Round, Square}
use Rattle.lisp_read.specs.declared.tree.Tree.{Tree}
use Rattle.lisp_read.specs.declared.tree.Tree.TheOpen.{Tree-F}
use Rattle.lisp_read.specs.declared.tree.Tree.TheFolds.{fold-Tree}
use Rattle.lisp_read.specs.declared.tree.Tree.TheVariants as tree
use Rattle.lisp_read.specs.Bytes.{quote, open_brace, close_brace}
use Rattle.lisp_read.specs.Class.{open_byte, close_byte}
use Rattle.lisp_read.specs.Part.{Part, Atom, Str, Block, parts_of}
use Rattle.lisp_read.specs.Text.{IsAtom, IsQuoted, IsBraced}
use Rattle.lisp_read.specs.Reading.{ReadsAs, Trees}
use Rattle.rtx_tree.specs.Limit.{most_open}

-- ---- the text

-- a text with a space in front
abbrev pub spaced : List ℕ → List ℕ
spaced text = 32 ∷ text

-- texts in brackets of a kind, with a space between each two
abbrev pub bracketed : Bracket → List (List ℕ) → List ℕ
bracketed kind texts = open_byte kind ∷ (drop 1 (flat_map spaced texts) ++ close_byte kind ∷ [])

abbrev pub printed_step : Tree-F (List ℕ) → List ℕ
printed_step (Tree-F.Atom place text) = text
printed_step (Tree-F.Str place text) = quote ∷ (text ++ quote ∷ [])
printed_step (Tree-F.Block place text) = open_brace ∷ (text ++ close_brace ∷ [])
printed_step (Tree-F.List place texts) = bracketed Round texts
printed_step (Tree-F.Vector place texts) = bracketed Square texts

unfoldable pub printed_tree : Tree → List ℕ
printed_tree = fold-Tree (List ℕ) printed_step

-- trees with a space between each two
abbrev pub spaced_tree : Tree → List ℕ
spaced_tree t = spaced (printed_tree t)

abbrev pub separated : List Tree → List ℕ
separated ts = drop 1 (flat_map spaced_tree ts)

-- ---- what is read back

-- Two trees are the same, places aside, where they are the same without their places.
abbrev pub nowhere : Place
nowhere = record { line = 0; column = 0; offset = 0 }

abbrev pub unplaced_step : Tree-F Tree → Tree
unplaced_step (Tree-F.Atom place text) = tree.Atom nowhere text
unplaced_step (Tree-F.Str place text) = tree.Str nowhere text
unplaced_step (Tree-F.Block place text) = tree.Block nowhere text
unplaced_step (Tree-F.List place items) = tree.List nowhere items
unplaced_step (Tree-F.Vector place items) = tree.Vector nowhere items

unfoldable pub unplaced : Tree → Tree
unplaced = fold-Tree Tree unplaced_step

-- an atom, a string or a block that the text may have
abbrev pub IsAdmitted : Part → Type 0
IsAdmitted (Atom place text) = IsAtom text
IsAdmitted (Str place text) = IsQuoted text
IsAdmitted (Block place text) = IsBraced 0 text
IsAdmitted _ = Unit {0}

abbrev pub AreAdmitted : List Part → Type 0
AreAdmitted [] = Unit {0}
AreAdmitted (part ∷ parts) = IsAdmitted part × AreAdmitted parts

-- how many lists and vectors stand within each other
abbrev pub greatest : List ℕ → ℕ
greatest [] = 0
greatest (n ∷ ns) = max n (greatest ns)

abbrev pub depth_step : Tree-F ℕ → ℕ
depth_step (Tree-F.List place depths) = suc (greatest depths)
depth_step (Tree-F.Vector place depths) = suc (greatest depths)
depth_step _ = 0

unfoldable pub depth_of : Tree → ℕ
depth_of = fold-Tree ℕ depth_step

-- a tree that some text is the text of
pub record IsPrintable (t : Tree) : Type 0 where
  pub admitted : AreAdmitted (parts_of t)
  pub shallow : depth_of t ≤ most_open

-- the printed text is read as that tree alone, places aside
pub record ReadsBack (t : Tree) : Type 0 where
  pub trees : List Tree
  pub reads : ReadsAs (printed_tree t) (Trees trees)
  pub same : map unplaced trees ≡ unplaced t ∷ []
