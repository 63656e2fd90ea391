-- Extensions: those of one kind compose, one by the sign of one by zeros is one by zeros, and both
-- go into operators on bits.
use Rattle.std.specs.Prelude.{ℕ, if◌then◌else◌, List, [], ◌∷◌}
use Rattle.bits64.specs.declared.Width.{Width}
use Rattle.bits64.specs.Words.{sign_extended, zero_extended}
use Rattle.term_tree.specs.declared.head.Head.{Head}
use Rattle.term_tree.specs.declared.head.Head.TheVariants as heads
use Rattle.term_tree.specs.declared.head.Joint.{Joint}
use Rattle.term_tree.specs.declared.head.Joint.TheVariants.{And, Ior, Xor}
use Rattle.term_tree.specs.declared.head.Extension.{Extension}
use Rattle.term_tree.specs.declared.head.Extension.TheVariants.{Zero, Sign}
use Rattle.term_tree.specs.Tree.{Tree, Atoms, Trees, Sum, Node, no_atoms, atom, no_trees, tree, width_of}
use Rattle.term_tree.specs.Form.{narrower, all_of_width}
use Rattle.term_mean.specs.Sums.{constant}
use Rattle.term_mean.specs.Cuts.{one_part}

abbrev pub extension_head : Extension → Head
extension_head Zero = heads.Zext
extension_head Sign = heads.Sext

-- the low bits of a number, extended to 64
abbrev pub extended_by : Extension → Width → ℕ → ℕ
extended_by Zero v a = zero_extended v a
extended_by Sign v a = sign_extended v a

-- an extension as it stands
abbrev pub extension : Extension → Width → Tree → Tree
extension e m t = one_part (extension_head e) m t

-- an extension of kind e of one by the sign from p to v bits
abbrev pub of_sign : Extension → Width → Width → Tree → Tree → Tree
of_sign Sign m v t p = if narrower (width_of p) v then extension Sign m p else extension Sign m t
of_sign Zero m v t p = extension Zero m t

-- an extension of kind e of one by zeros from p to v bits
abbrev pub of_zeros : Extension → Width → Width → Tree → Tree → Tree
of_zeros e m v t p = if narrower (width_of p) v then extension Zero m p else extension e m t

-- an extension of an operator on bits over parts ps, from their extensions
abbrev pub extended_joint : (Joint → List Tree → Tree) → Extension → Width → Joint → Width → Tree →
    Trees → List Tree → Tree
extended_joint make e m o v t ps [] = extension e m t
extended_joint make e m o v t ps (q ∷ qs) =
    if all_of_width v ps then make o (q ∷ qs) else extension e m t

-- the extension of a node t of v bits, from its parts and their extensions
abbrev pub extended_node : (Joint → List Tree → Tree) → Extension → Width → Head → Width → Tree →
    Trees → List Tree → Tree
extended_node make e m heads.And v t ps qs = extended_joint make e m And v t ps qs
extended_node make e m heads.Ior v t ps qs = extended_joint make e m Ior v t ps qs
extended_node make e m heads.Xor v t ps qs = extended_joint make e m Xor v t ps qs
extended_node make e m heads.Zext v t (tree p no_trees) qs = of_zeros e m v t p
extended_node make e m heads.Sext v t (tree p no_trees) qs = of_sign e m v t p
extended_node make e m h v t ps qs = extension e m t

abbrev pub extended_sum : Extension → Width → Width → ℕ → Atoms → Tree
extended_sum e m v c no_atoms = constant m (extended_by e v c)
extended_sum e m v c (atom k t xs) = extension e m (Sum v c (atom k t xs))

-- a narrower term, extended to m bits
abbrev mutual
  pub extended : (Joint → List Tree → Tree) → Extension → Width → Tree → Tree
  extended make e m (Sum v c xs) = extended_sum e m v c xs
  extended make e m (Node h v n s ps) =
      extended_node make e m h v (Node h v n s ps) ps (extended_all make e m ps)

  pub extended_all : (Joint → List Tree → Tree) → Extension → Width → Trees → List Tree
  extended_all make e m no_trees = []
  extended_all make e m (tree t ts) = extended make e m t ∷ extended_all make e m ts
