-- The widths of what the rules make.
use Rattle.std.proofs.Common.{◌≡◌, ℕ, zero, suc, refl, sym, cond, eqb, Bool, true, false, List, [], ◌∷◌}
use Rattle.bits64.specs.declared.Width.{Width}
use Rattle.bits64.specs.Words.{low}
use Rattle.term_tree.specs.declared.head.Head.{Head}
use Rattle.term_tree.specs.declared.head.Head.TheVariants as heads
use Rattle.term_tree.specs.declared.head.Joint.{Joint}
use Rattle.term_tree.specs.declared.head.Joint.TheVariants.{Mul, And, Ior, Xor}
use Rattle.term_tree.specs.declared.head.Extension.{Extension}
use Rattle.term_tree.specs.declared.head.Extension.TheVariants.{Zero, Sign}
use Rattle.term_tree.specs.Tree.{Tree, Trees, Sum, Node, no_atoms, atom, no_trees, tree, width_of, own_width, AtomTree}
use Rattle.term_mean.specs.Joints.{start, absorbs, node_of, plain, with_constant, finished, joined}
use Rattle.term_mean.specs.Cuts.{one_part, extension_cut, cut_node, cut, cut_atoms, cut_all}
use Rattle.term_mean.specs.Extensions.{extension, of_sign, extended_joint, extended_node, extended, extended_all}
use Rattle.term_tree.specs.Form.{same_width, narrower, all_of_width}
use Rattle.term_mean.specs.Sums.{sum, constant, plus_times, summed}
use Rattle.term_tree.proofs.OrderLaws.{same_width-true}

pub width-sum : (w : Width) (c : ℕ) (xs : List AtomTree) → width_of (sum w c xs) ≡ w
width-sum w zero ((suc zero, t) ∷ []) = go (same_width (width_of t) w) refl
  where
    go : (b : Bool) → same_width (width_of t) w ≡ b → width_of (cond b t (Sum w 0 (atom 1 t no_atoms))) ≡ w
    go true e = same_width-true (width_of t) w e
    go false e = refl
width-sum w c xs = refl

pub width-plus_times : (w : Width) (a : Tree) (f : ℕ) (b : Tree) → width_of (plus_times w a f b) ≡ w
width-plus_times w a f b = width-sum w _ _

pub width-summed : (w : Width) (c : ℕ) (xs : List AtomTree) → width_of (summed w c xs) ≡ w
width-summed w c xs = width-sum w _ _

pub width-cond : (b : Bool) (m : Width) (t u : Tree) → width_of t ≡ m → width_of u ≡ m → width_of (cond b t u) ≡ m
width-cond true m t u p q = p
width-cond false m t u p q = q

-- ---- products and operators on bits
width-node_of : (o : Joint) (w : Width) (ts : List Tree) → width_of (node_of o w ts) ≡ w
width-node_of Mul w ts = refl
width-node_of And w ts = refl
width-node_of Ior w ts = refl
width-node_of Xor w ts = refl

pub width-plain : (o : Joint) (w : Width) (ts : List Tree) → width_of (plain o w ts) ≡ w
width-plain o w [] = refl
width-plain o w (t ∷ []) = go (same_width (width_of t) w) refl
  where
    go : (b : Bool) → same_width (width_of t) w ≡ b → width_of (cond b t (node_of o w (t ∷ []))) ≡ w
    go true e = same_width-true (width_of t) w e
    go false e = width-node_of o w (t ∷ [])
width-plain o w (t ∷ u ∷ ts) = width-node_of o w (t ∷ u ∷ ts)

width-with_constant : (o : Joint) (w : Width) (c : ℕ) (ts : List Tree) → width_of (with_constant o w c ts) ≡ w
width-with_constant Mul w c (t ∷ ts) = width-plus_times w (constant w 0) c (plain Mul w (t ∷ ts))
width-with_constant And w c (t ∷ ts) = refl
width-with_constant Ior w c (t ∷ ts) = refl
width-with_constant Xor w c (t ∷ ts) = refl
width-with_constant o w c [] = refl

pub width-finished : (o : Joint) (w : Width) (c : ℕ) (ts : List Tree) → width_of (finished o w c ts) ≡ w
width-finished o w c ts =
    width-cond (absorbs o w c) w (constant w c) (cond (eqb c (low w (start o))) (plain o w ts) (with_constant o w c ts)) refl (width-cond (eqb c (low w (start o))) w (plain o w ts) (with_constant o w c ts) (width-plain o w ts) (width-with_constant o w c ts))

pub width-joined : (o : Joint) (w : Width) (ts : List Tree) → width_of (joined o w ts) ≡ w
width-joined o w ts = width-finished o w _ _

-- ---- truncation
abbrev pub MakesWidth : Width → (Joint → List Tree → Tree) → Type 0
MakesWidth m f = (o : Joint) (ts : List Tree) → width_of (f o ts) ≡ m

width-extension_cut : (h : Head) (m : Width) (t q : Tree) → width_of (one_part h m t) ≡ m → width_of q ≡ m → width_of (extension_cut h m t q) ≡ m
width-extension_cut h m t q raw e = go (narrower m (width_of t)) (same_width m (width_of t)) refl
  where
    go : (a b : Bool) → same_width m (width_of t) ≡ b → width_of (cond a q (cond b t (one_part h m t))) ≡ m
    go true b f = e
    go false true f = sym (same_width-true m (width_of t) f)
    go false false f = raw

abbrev pub AllHave : Width → List Tree → Type 0
AllHave m [] = Unit {0}
AllHave m (q ∷ qs) = (width_of q ≡ m) × AllHave m qs

width-cut_node : (f : Joint → List Tree → Tree) (m : Width) (h : Head) (t : Tree) (ps : Trees) (qs : List Tree) → MakesWidth m f → AllHave m qs → width_of (cut_node f m h t ps qs) ≡ m
width-cut_node f m heads.Mul t ps qs g a = g Mul qs
width-cut_node f m heads.And t ps qs g a = g And qs
width-cut_node f m heads.Ior t ps qs g a = g Ior qs
width-cut_node f m heads.Xor t ps qs g a = g Xor qs
width-cut_node f m heads.Trunc t (tree p no_trees) (q ∷ []) g a = a.0
width-cut_node f m heads.Zext t (tree p no_trees) (q ∷ []) g a = width-extension_cut heads.Zext m p q refl a.0
width-cut_node f m heads.Sext t (tree p no_trees) (q ∷ []) g a = width-extension_cut heads.Sext m p q refl a.0
width-cut_node f m h t ps qs g a = refl

mutual
  pub width-cut : (f : Joint → List Tree → Tree) (m : Width) (t : Tree) → MakesWidth m f → width_of (cut f m t) ≡ m
  width-cut f m (Sum w c xs) g =
      width-cond (narrower m w) m (summed m c (cut_atoms f m xs)) (one_part heads.Trunc m (Sum w c xs)) (width-summed m c (cut_atoms f m xs)) refl
  width-cut f m (Node h w n s ps) g = width-cond (narrower m (own_width h w)) m (cut_node f m h (Node h w n s ps) ps (cut_all f m ps)) (one_part heads.Trunc m (Node h w n s ps)) (width-cut_node f m h (Node h w n s ps) ps (cut_all f m ps) g (width-cut_all f m ps g)) refl

  pub width-cut_all : (f : Joint → List Tree → Tree) (m : Width) (ps : Trees) → MakesWidth m f → AllHave m (cut_all f m ps)
  width-cut_all f m no_trees g = tt
  width-cut_all f m (tree t ts) g = (width-cut f m t g, width-cut_all f m ts g)

-- ---- extensions
pub width-extension : (e : Extension) (m : Width) (t : Tree) → width_of (extension e m t) ≡ m
width-extension Zero m t = refl
width-extension Sign m t = refl

width-of_sign : (e : Extension) (m v : Width) (t p : Tree) → width_of (of_sign e m v t p) ≡ m
width-of_sign Sign m v t p = width-cond (narrower (width_of p) v) m (extension Sign m p) (extension Sign m t) refl refl
width-of_sign Zero m v t p = refl

width-extended_joint : (f : Joint → List Tree → Tree) (e : Extension) (m : Width) (o : Joint) (v : Width) (t : Tree) (ps : Trees) (qs : List Tree) → MakesWidth m f → width_of (extended_joint f e m o v t ps qs) ≡ m
width-extended_joint f e m o v t ps [] g = width-extension e m t
width-extended_joint f e m o v t ps (q ∷ qs) g = width-cond (all_of_width v ps) m (f o (q ∷ qs)) (extension e m t) (g o (q ∷ qs)) (width-extension e m t)

width-extended_node : (f : Joint → List Tree → Tree) (e : Extension) (m : Width) (h : Head) (v : Width) (t : Tree) (ps : Trees) (qs : List Tree) → MakesWidth m f → width_of (extended_node f e m h v t ps qs) ≡ m
width-extended_node f e m heads.And v t ps qs g = width-extended_joint f e m And v t ps qs g
width-extended_node f e m heads.Ior v t ps qs g = width-extended_joint f e m Ior v t ps qs g
width-extended_node f e m heads.Xor v t ps qs g = width-extended_joint f e m Xor v t ps qs g
width-extended_node f e m heads.Zext v t (tree p no_trees) qs g = width-cond (narrower (width_of p) v) m (extension Zero m p) (extension e m t) refl (width-extension e m t)
width-extended_node f e m heads.Sext v t (tree p no_trees) qs g = width-of_sign e m v t p
width-extended_node f e m h v t ps qs g = width-extension e m t

pub width-extended : (f : Joint → List Tree → Tree) (e : Extension) (m : Width) (t : Tree) → MakesWidth m f → width_of (extended f e m t) ≡ m
width-extended f e m (Sum v c no_atoms) g = refl
width-extended f e m (Sum v c (atom k t xs)) g = width-extension e m (Sum v c (atom k t xs))
width-extended f e m (Node h v n s ps) g = width-extended_node f e m h v (Node h v n s ps) ps (extended_all f e m ps) g
