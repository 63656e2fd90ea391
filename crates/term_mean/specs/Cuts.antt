-- Truncation, which goes into the parts of sums, products and operators on bits.
use Rattle.std.specs.Prelude.{if◌then◌else◌, List, [], ◌∷◌}
use Rattle.bits64.specs.declared.Width.{Width}
use Rattle.bits64.specs.Words.{low}
use Rattle.term_tree.specs.declared.head.Head.{Head}
use Rattle.term_tree.specs.declared.head.Head.TheVariants as heads
use Rattle.term_tree.specs.declared.head.Joint.{Joint}
use Rattle.term_tree.specs.declared.head.Joint.TheVariants.{Mul, And, Ior, Xor}
use Rattle.term_tree.specs.Tree.{Tree, Atoms, Trees, AtomTree, Sum, Node, no_atoms, atom, no_trees, tree, own_width, width_of}
use Rattle.term_tree.specs.Form.{same_width, narrower}
use Rattle.term_mean.specs.Sums.{summed}

-- an operator over one part
abbrev pub one_part : Head → Width → Tree → Tree
one_part h w t = Node h w 0 [] (tree t no_trees)

-- an extension of t, cut to m bits, where q is t cut to m bits: the part where it is as wide, what
-- is cut of it where it is wider, and the same extension to m bits where it is narrower
abbrev pub extension_cut : Head → Width → Tree → Tree → Tree
extension_cut h m t q =
    if narrower m (width_of t) then q else (if same_width m (width_of t) then t else one_part h m t)

-- what cutting to m bits makes of a node, from its parts and its cut parts; `make` makes products
-- and operators on bits
abbrev pub cut_node : (Joint → List Tree → Tree) → Width → Head → Tree → Trees → List Tree → Tree
cut_node make m heads.Mul t ps qs = make Mul qs
cut_node make m heads.And t ps qs = make And qs
cut_node make m heads.Ior t ps qs = make Ior qs
cut_node make m heads.Xor t ps qs = make Xor qs
cut_node make m heads.Trunc t (tree p no_trees) (q ∷ []) = q
cut_node make m heads.Zext t (tree p no_trees) (q ∷ []) = extension_cut heads.Zext m p q
cut_node make m heads.Sext t (tree p no_trees) (q ∷ []) = extension_cut heads.Sext m p q
cut_node make m h t ps qs = one_part heads.Trunc m t

-- a term that is wider, cut to m bits
abbrev mutual
  pub cut : (Joint → List Tree → Tree) → Width → Tree → Tree
  cut make m (Sum w c xs) =
      if narrower m w then summed m c (cut_atoms make m xs) else one_part heads.Trunc m (Sum w c xs)
  cut make m (Node h w n s ps) =
      if narrower m (own_width h w) then cut_node make m h (Node h w n s ps) ps (cut_all make m ps) else one_part heads.Trunc m (Node h w n s ps)

  pub cut_atoms : (Joint → List Tree → Tree) → Width → Atoms → List AtomTree
  cut_atoms make m no_atoms = []
  cut_atoms make m (atom k t xs) = (low m k, cut make m t) ∷ cut_atoms make m xs

  pub cut_all : (Joint → List Tree → Tree) → Width → Trees → List Tree
  cut_all make m no_trees = []
  cut_all make m (tree t ts) = cut make m t ∷ cut_all make m ts
