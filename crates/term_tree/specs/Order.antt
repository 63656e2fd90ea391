-- The order of terms: registers by number, and then by head, width, number, name, and the parts
-- from the left, fewer first. It is lexicographic throughout.
use Rattle.std.specs.Prelude.{ℕ, ◌+◌, List, [], ◌∷◌}
use Rattle.std.specs.declared.cmp.Ordering.{Ordering}
use Rattle.std.specs.declared.cmp.Ordering.TheVariants.{Less, Equal, Greater}
use Rattle.std.specs.Ordering.{nat_cmp, ordering_then}
use Rattle.bits64.specs.Words.{bits_of}
use Rattle.bits64.specs.Operators.{opaque_index}
use Rattle.term_tree.specs.declared.head.Head.{Head}
use Rattle.term_tree.specs.declared.head.Head.TheVariants.{Reg, Sym, Mul, Opaque, And, Ior, Xor, Shl, Shr, Sar, Trunc, Zext, Sext, Lt, Ltu, Eq, Load}
use Rattle.term_tree.specs.declared.head.Head.TheVariants as heads
use Rattle.term_tree.specs.Tree.{Tree, Atoms, Trees, Sum, Node, no_atoms, atom, no_trees, tree}

-- the place of a head among all: registers come first. There is room for operators of which nothing
-- else is known
abbrev pub head_index : Head → ℕ
head_index Reg = 0
head_index Sym = 1
head_index heads.Sum = 2
head_index Mul = 3
head_index (Opaque o) = 4 + opaque_index o
head_index And = 64
head_index Ior = 65
head_index Xor = 66
head_index Shl = 67
head_index Shr = 68
head_index Sar = 69
head_index Trunc = 70
head_index Zext = 71
head_index Sext = 72
head_index Lt = 73
head_index Ltu = 74
head_index Eq = 75
head_index Load = 76

-- numbers from the left, fewer first
abbrev pub numbers_cmp : List ℕ → List ℕ → Ordering
numbers_cmp [] [] = Equal
numbers_cmp [] (y ∷ ys) = Less
numbers_cmp (x ∷ xs) [] = Greater
numbers_cmp (x ∷ xs) (y ∷ ys) = ordering_then (nat_cmp x y) (numbers_cmp xs ys)

-- a sum stands where its head does: after registers and symbols, and before all else
abbrev pub sum_before : Head → Ordering
sum_before Reg = Greater
sum_before Sym = Greater
sum_before _ = Less

abbrev pub sum_after : Head → Ordering
sum_after Reg = Less
sum_after Sym = Less
sum_after _ = Greater

abbrev mutual
  -- the constant is a sum's number, and the atoms are its parts
  pub tree_cmp : Tree → Tree → Ordering
  tree_cmp (Sum w c xs) (Sum w' c' ys) =
      ordering_then (nat_cmp (bits_of w) (bits_of w')) (ordering_then (nat_cmp c c') (atoms_cmp xs ys))
  tree_cmp (Sum w c xs) (Node h' w' n' s' qs) = sum_before h'
  tree_cmp (Node h w n s ps) (Sum w' c' ys) = sum_after h
  tree_cmp (Node h w n s ps) (Node h' w' n' s' qs) =
      ordering_then (nat_cmp (head_index h) (head_index h')) (ordering_then (nat_cmp (bits_of w) (bits_of w')) (ordering_then (nat_cmp n n') (ordering_then (numbers_cmp s s') (trees_cmp ps qs))))

  -- each term before its coefficient
  pub atoms_cmp : Atoms → Atoms → Ordering
  atoms_cmp no_atoms no_atoms = Equal
  atoms_cmp no_atoms (atom j u ys) = Less
  atoms_cmp (atom k t xs) no_atoms = Greater
  atoms_cmp (atom k t xs) (atom j u ys) =
      ordering_then (tree_cmp t u) (ordering_then (nat_cmp k j) (atoms_cmp xs ys))

  pub trees_cmp : Trees → Trees → Ordering
  trees_cmp no_trees no_trees = Equal
  trees_cmp no_trees (tree u qs) = Less
  trees_cmp (tree t ps) no_trees = Greater
  trees_cmp (tree t ps) (tree u qs) = ordering_then (tree_cmp t u) (trees_cmp ps qs)
