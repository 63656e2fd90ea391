-- Terms as trees: expressions over what registers, symbols and memories held at the beginning.
use Rattle.std.specs.Prelude.{ℕ, List, [], ◌∷◌, ◌+◌}
use Rattle.bits64.specs.declared.Width.{Width}
use Rattle.bits64.specs.declared.Width.TheVariants.{W8}
use Rattle.term_tree.specs.declared.head.Head.{Head}
use Rattle.term_tree.specs.declared.head.Head.TheVariants.{Lt, Ltu, Eq}

mutual
  -- a sum of a constant and atoms, or an operator over parts; a register has a number, a load that
  -- of its memory, a symbol a name
  pub data Tree : Type 0 where
    Sum : Width → ℕ → Atoms → Tree
    Node : Head → Width → ℕ → List ℕ → Trees → Tree

  -- coefficients and terms
  pub data Atoms : Type 0 where
    no_atoms : Atoms
    atom : ℕ → Tree → Atoms → Atoms

  pub data Trees : Type 0 where
    no_trees : Trees
    tree : Tree → Trees → Trees

-- the width in a node is that of its number, but of a comparison that of its parts: its own number
-- is 0 or 1, in 8 bits
abbrev pub own_width : Head → Width → Width
own_width Lt w = W8
own_width Ltu w = W8
own_width Eq w = W8
own_width _ w = w

abbrev pub width_of : Tree → Width
width_of (Sum w c xs) = w
width_of (Node h w n s ps) = own_width h w

-- a coefficient and a term
abbrev pub AtomTree : Type 0
AtomTree = ℕ × Tree

-- the atoms as a list, and back
abbrev pub list_of_atoms : Atoms → List AtomTree
list_of_atoms no_atoms = []
list_of_atoms (atom k t xs) = (k, t) ∷ list_of_atoms xs

abbrev pub atoms_of : List AtomTree → Atoms
atoms_of [] = no_atoms
atoms_of (x ∷ xs) = atom x.0 x.1 (atoms_of xs)

-- the parts as a list, and back
abbrev pub list_of : Trees → List Tree
list_of no_trees = []
list_of (tree t ts) = t ∷ list_of ts

abbrev pub trees_of : List Tree → Trees
trees_of [] = no_trees
trees_of (t ∷ ts) = tree t (trees_of ts)

-- how many nodes a term has; a part is counted as often as it stands there
abbrev mutual
  pub tree_size : Tree → ℕ
  tree_size (Sum w c xs) = 1 + atoms_size xs
  tree_size (Node h w n s ps) = 1 + trees_size ps

  pub atoms_size : Atoms → ℕ
  atoms_size no_atoms = 0
  atoms_size (atom k t xs) = tree_size t + atoms_size xs

  pub trees_size : Trees → ℕ
  trees_size no_trees = 0
  trees_size (tree t ts) = tree_size t + trees_size ts
