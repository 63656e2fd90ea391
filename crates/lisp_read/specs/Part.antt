-- Trees as the flat list of their parts, in the order of the text. What the text of a tree is, and
-- which lists and vectors stand open at a byte of it, is said of this list.
use Rattle.std.specs.Prelude.{ℕ, List, [], ◌∷◌, ◌++◌}
use Rattle.std.specs.List.{flat_map}
use Rattle.rtx_tree.specs.declared.place.Place.{Place}
use Rattle.lisp_read.specs.declared.class.Bracket.{Bracket}
use Rattle.lisp_read.specs.declared.class.Bracket.TheVariants.{Round, Square}
use Rattle.lisp_read.specs.declared.tree.Tree.{Tree}
use Rattle.lisp_read.specs.declared.tree.Tree.TheOpen.{Tree-F}
use Rattle.lisp_read.specs.declared.tree.Tree.TheFolds.{fold-Tree}

-- An atom, a string or a block with its bytes; or a byte that opens or closes a list (Round) or a
-- vector (Square). Each stands at the place of its first byte; a closing byte's place is not kept.
pub data Part : Type 0 where
  Atom : (place : Place) (text : List ℕ) → Part
  Str : (place : Place) (text : List ℕ) → Part
  Block : (place : Place) (text : List ℕ) → Part
  Open : (kind : Bracket) (place : Place) → Part
  Close : (kind : Bracket) → Part

-- an opening byte, what stands between, and the closing byte
abbrev pub enclosed : Bracket → Place → List Part → List Part
enclosed kind place inner = Open kind place ∷ (inner ++ Close kind ∷ [])

-- the parts of a tree, from those of the trees in it
abbrev pub parts_step : Tree-F (List Part) → List Part
parts_step (Tree-F.Atom place text) = Atom place text ∷ []
parts_step (Tree-F.Str place text) = Str place text ∷ []
parts_step (Tree-F.Block place text) = Block place text ∷ []
parts_step (Tree-F.List place items) = enclosed Round place (flat_map (λ parts. parts) items)
parts_step (Tree-F.Vector place items) = enclosed Square place (flat_map (λ parts. parts) items)

abbrev pub parts_of : Tree → List Part
parts_of = fold-Tree (List Part) parts_step

-- the parts of trees that stand one behind the other
abbrev pub parts_of_all : List Tree → List Part
parts_of_all trees = flat_map parts_of trees
