-- The normal form of a term under a list of stores: first that of the parts, and then the rules of
-- the head.
use Rattle.std.specs.Prelude.{ℕ, List, [], ◌∷◌}
use Rattle.bits64.specs.declared.Width.{Width}
use Rattle.bits64.specs.Operators.{opaque_taking}
use Rattle.term_tree.specs.declared.head.Head.{Head}
use Rattle.term_tree.specs.declared.head.Head.TheVariants as heads
use Rattle.term_tree.specs.declared.head.Joint.TheVariants.{Mul, And, Ior, Xor}
use Rattle.term_tree.specs.declared.head.Extension.TheVariants.{Zero, Sign}
use Rattle.term_tree.specs.Tree.{Tree, Atoms, Trees, AtomTree, Sum, Node, no_atoms, atom, no_trees, tree, trees_of}
use Rattle.term_mean.specs.Stores.{Store}
use Rattle.term_mean.specs.Sums.{summed}
use Rattle.term_mean.specs.Extensions.{extended}
use Rattle.term_mean.specs.Masks.{made_at, cut_to}
use Rattle.term_mean.specs.Shifts.{opaque_one, opaque_two, shifted}
use Rattle.term_mean.specs.Zero.{equals_zero}
use Rattle.term_mean.specs.Less.{less_than}
use Rattle.term_mean.specs.Loads.{loaded}

-- what the rules of a head make of one normal part
abbrev pub built_one : List Store → Head → Width → ℕ → List ℕ → Tree → Tree
built_one stores (heads.Opaque o) w n s a = opaque_one o w a
built_one stores heads.Trunc w n s a = cut_to w a
built_one stores heads.Zext w n s a = extended (made_at w) Zero w a
built_one stores heads.Sext w n s a = extended (made_at w) Sign w a
built_one stores heads.Eq w n s a = equals_zero w a
built_one stores heads.Load w n s a = loaded stores w n a
built_one stores h w n s a = Node h w n s (tree a no_trees)

-- what the rules of a head make of two normal parts
abbrev pub built_two : Head → Width → ℕ → List ℕ → Tree → Tree → Tree
built_two (heads.Opaque o) w n s a b = opaque_two (opaque_taking o) o w a b
built_two heads.Shl w n s a b = shifted heads.Shl w a b
built_two heads.Shr w n s a b = shifted heads.Shr w a b
built_two heads.Sar w n s a b = shifted heads.Sar w a b
built_two heads.Lt w n s a b = less_than Sign w a b
built_two heads.Ltu w n s a b = less_than Zero w a b
built_two h w n s a b = Node h w n s (tree a (tree b no_trees))

abbrev pub built_parts : List Store → Head → Width → ℕ → List ℕ → List Tree → Tree
built_parts stores h w n s [] = Node h w n s no_trees
built_parts stores h w n s (a ∷ []) = built_one stores h w n s a
built_parts stores h w n s (a ∷ b ∷ []) = built_two h w n s a b
built_parts stores h w n s (a ∷ b ∷ c ∷ ts) = Node h w n s (trees_of (a ∷ b ∷ c ∷ ts))

-- what the rules of a head make of normal parts
abbrev pub built : List Store → Head → Width → ℕ → List ℕ → List Tree → Tree
built stores heads.Mul w n s ts = made_at w Mul ts
built stores heads.And w n s ts = made_at w And ts
built stores heads.Ior w n s ts = made_at w Ior ts
built stores heads.Xor w n s ts = made_at w Xor ts
built stores h w n s ts = built_parts stores h w n s ts

abbrev mutual
  pub normal : List Store → Tree → Tree
  normal stores (Sum w c xs) = summed w c (normal_atoms stores xs)
  normal stores (Node h w n s ps) = built stores h w n s (normal_all stores ps)

  pub normal_atoms : List Store → Atoms → List AtomTree
  normal_atoms stores no_atoms = []
  normal_atoms stores (atom k t xs) = (k, normal stores t) ∷ normal_atoms stores xs

  pub normal_all : List Store → Trees → List Tree
  normal_all stores no_trees = []
  normal_all stores (tree t ts) = normal stores t ∷ normal_all stores ts
