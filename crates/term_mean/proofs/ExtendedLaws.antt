-- Extensions: what the rule makes of an extension has its number.
use Rattle.std.proofs.Common.{◌≡◌, ℕ, ◌%◌, ◌^◌, ◌<◌, ◌≤◌, refl, sym, ◌∙◌, ap, arith, tests, cond, Bool, true, false, List, [], ◌∷◌}
use Rattle.std.proofs.Math.Nat.{mod-mod}
use Rattle.bits64.specs.declared.Width.{Width}
use Rattle.bits64.specs.declared.Width.TheVariants.{W8, W16, W32, W64}
use Rattle.bits64.specs.Words.{bits_of, low, wrapped, sign_extended}
use Rattle.term_tree.specs.declared.head.Head.{Head}
use Rattle.term_tree.specs.declared.head.Head.TheVariants as heads
use Rattle.term_tree.specs.declared.head.Joint.{Joint}
use Rattle.term_tree.specs.declared.head.Joint.TheVariants.{And, Ior, Xor}
use Rattle.term_tree.specs.declared.head.Extension.{Extension}
use Rattle.term_tree.specs.declared.head.Extension.TheVariants.{Zero, Sign}
use Rattle.term_tree.specs.Tree.{Tree, Trees, Sum, Node, no_atoms, atom, no_trees, tree, width_of, own_width}
use Rattle.term_tree.specs.Form.{same_width, narrower, all_of_width}
use Rattle.term_tree.proofs.OrderLaws.{same_width-true}
use Rattle.term_mean.specs.Meaning.{Valuation, mean, values, over_all}
use Rattle.term_mean.specs.Joints.{join, start}
use Rattle.term_mean.specs.Extensions.{extended_by, extension, of_sign, extended_joint, extended_node, extended, extended_all}
use Rattle.term_mean.proofs.Modulo.{same-cut}
use Rattle.term_mean.proofs.SumLaws.{mean-constant}
use Rattle.term_mean.proofs.JoinLaws.{OnBits, join-cut, folded, low_plus_zero}
use Rattle.term_mean.proofs.JoinedLaws.{same-join, join-start_right, and-true}
use Rattle.term_mean.proofs.CutLaws.{MakesAre}
use Rattle.term_mean.proofs.ExtensionLaws.{sign_extended-join}
use Rattle.term_mean.proofs.RuleLaws.{signed-sign_extended}

-- only the low bits count
sign_extended-cut : (w : Width) (n : ℕ) → sign_extended w (low w n) ≡ sign_extended w n
sign_extended-cut W8 n = grind arith
sign_extended-cut W16 n = grind arith
sign_extended-cut W32 n = grind arith
sign_extended-cut W64 n = grind arith

pub extended-cut : (e : Extension) (w : Width) (n : ℕ) → extended_by e w (low w n) ≡ extended_by e w n
extended-cut Zero w n = mod-mod n (2 ^ bits_of w)
extended-cut Sign w n = sign_extended-cut w n

extended-join : (e : Extension) (w : Width) (o : Joint) → OnBits o → (a b : ℕ) → extended_by e w (join o a b) ≡ join o (extended_by e w a) (extended_by e w b)
extended-join Zero w o h a b = join-cut o h a b (bits_of w)
extended-join Sign w o h a b = sign_extended-join w o h a b

-- a number of fewer bits
pub low-within : (v w : Width) (n : ℕ) → bits_of v ≤ bits_of w → low w (low v n) ≡ low v n
low-within W8 W8 n h = omega arith
low-within W8 W16 n h = omega arith
low-within W8 W32 n h = omega arith
low-within W8 W64 n h = omega arith
low-within W16 W8 n h = absurd (omega arith)
low-within W16 W16 n h = omega arith
low-within W16 W32 n h = omega arith
low-within W16 W64 n h = omega arith
low-within W32 W8 n h = absurd (omega arith)
low-within W32 W16 n h = absurd (omega arith)
low-within W32 W32 n h = omega arith
low-within W32 W64 n h = omega arith
low-within W64 W8 n h = absurd (omega arith)
low-within W64 W16 n h = absurd (omega arith)
low-within W64 W32 n h = absurd (omega arith)
low-within W64 W64 n h = mod-mod n (2 ^ 64)

-- the sign of an extension by zeros is 0
sign_of_zeros : (v w : Width) (n : ℕ) → bits_of v < bits_of w → sign_extended w (low v n) ≡ low v n
sign_of_zeros W8 W8 n h = absurd (omega arith)
sign_of_zeros W8 W16 n h = grind arith
sign_of_zeros W8 W32 n h = grind arith
sign_of_zeros W8 W64 n h = grind arith
sign_of_zeros W16 W8 n h = absurd (omega arith)
sign_of_zeros W16 W16 n h = absurd (omega arith)
sign_of_zeros W16 W32 n h = grind arith
sign_of_zeros W16 W64 n h = grind arith
sign_of_zeros W32 W8 n h = absurd (omega arith)
sign_of_zeros W32 W16 n h = absurd (omega arith)
sign_of_zeros W32 W32 n h = absurd (omega arith)
sign_of_zeros W32 W64 n h = grind arith
sign_of_zeros W64 w n h = absurd (wide w h)
  where
    wide : (w : Width) → 64 < bits_of w → ⊥
    wide W8 h = omega arith
    wide W16 h = omega arith
    wide W32 h = omega arith
    wide W64 h = omega arith

pub narrower-less : (m w : Width) → narrower m w ≡ true → bits_of m < bits_of w
narrower-less m w e = grind (arith, tests)

pub mean-extension : (v : Valuation) (e : Extension) (m : Width) (t : Tree) → mean v (extension e m t) ≡ low m (extended_by e (width_of t) (mean v t))
mean-extension v Zero m t = refl
mean-extension v Sign m t = refl

-- part by part, what was extended is the extension of the part
abbrev pub AllExtended : Valuation → Extension → Width → Trees → List Tree → Type 0
AllExtended v e m no_trees [] = Unit {0}
AllExtended v e m no_trees (q ∷ qs) = ⊥
AllExtended v e m (tree p ps) [] = ⊥
AllExtended v e m (tree p ps) (q ∷ qs) = (mean v q ≡ low m (extended_by e (width_of p) (mean v p))) × AllExtended v e m ps qs

all-width : (u : Width) (p : Tree) (ps : Trees) → all_of_width u (tree p ps) ≡ true → (width_of p ≡ u) × (all_of_width u ps ≡ true)
all-width u p ps h = let b = and-true (same_width (width_of p) u) (all_of_width u ps) h in (same_width-true (width_of p) u b.0, b.1)

one-extended : (v : Valuation) (e : Extension) (m u : Width) (p q : Tree) → width_of p ≡ u → mean v q ≡ low m (extended_by e (width_of p) (mean v p)) → mean v q % 2 ^ bits_of m ≡ extended_by e u (mean v p) % 2 ^ bits_of m
one-extended v e m u p q w a = ap (low m) (a ∙ ap (λ x. low m (extended_by e x (mean v p))) w) ∙ same-cut (2 ^ bits_of m) (extended_by e u (mean v p))

folded-extended : (v : Valuation) (e : Extension) (m u : Width) (o : Joint) → OnBits o → (p q : Tree) (ps : Trees) (qs : List Tree) → all_of_width u (tree p ps) ≡ true → AllExtended v e m (tree p ps) (q ∷ qs) → low m (folded v o (q ∷ qs)) ≡ low m (extended_by e u (over_all (join o) (start o) (values v (tree p ps))))
folded-extended v e m u o h p q no_trees [] w a =
    join-start_right o m (mean v q)
    ∙ one-extended v e m u p q (all-width u p no_trees w).0 a.0
    ∙ ap (low m) (sym (extended-cut e u (mean v p)) ∙ ap (extended_by e u) (sym (join-start_right o u (mean v p))) ∙ extended-cut e u (join o (mean v p) (start o)))
folded-extended v e m u o h p q (tree p' ps) (q' ∷ qs) w a =
    let b = all-width u p (tree p' ps) w in
    let rest : ℕ = over_all (join o) (start o) (values v (tree p' ps)) in
    same-join o (bits_of m) (mean v q) (extended_by e u (mean v p)) (folded v o (q' ∷ qs)) (extended_by e u rest) (one-extended v e m u p q b.0 a.0) (folded-extended v e m u o h p' q' ps qs b.1 a.1)
    ∙ ap (low m) (sym (extended-join e u o h (mean v p) rest))
folded-extended v e m u o h p q no_trees (q' ∷ qs) w a = absurd a.1
folded-extended v e m u o h p q (tree p' ps) [] w a = absurd a.1

-- and, or and exclusive or
joint-extended : (v : Valuation) (e : Extension) (m u : Width) (f : Joint → List Tree → Tree) (o : Joint) (t : Tree) (ps : Trees) (q : Tree) (qs : List Tree) → OnBits o → MakesAre v m f → AllExtended v e m ps (q ∷ qs) → width_of t ≡ u → mean v t ≡ low u (over_all (join o) (start o) (values v ps)) → (b : Bool) → all_of_width u ps ≡ b → mean v (cond b (f o (q ∷ qs)) (extension e m t)) ≡ low m (extended_by e (width_of t) (mean v t))
joint-extended v e m u f o t no_trees q qs h sound a wt mt true w = absurd a
joint-extended v e m u f o t (tree p ps) q qs h sound a wt mt true w =
    let x : ℕ = over_all (join o) (start o) (values v (tree p ps)) in
    sound o (q ∷ qs)
    ∙ folded-extended v e m u o h p q ps qs w a
    ∙ ap (low m) (sym (extended-cut e u x) ∙ ap (extended_by e u) (sym mt) ∙ ap (λ y. extended_by e y (mean v t)) (sym wt))
joint-extended v e m u f o t ps q qs h sound a wt mt false w = mean-extension v e m t

mean-extended_joint : (v : Valuation) (e : Extension) (m u : Width) (f : Joint → List Tree → Tree) (o : Joint) (t : Tree) (ps : Trees) (qs : List Tree) → OnBits o → MakesAre v m f → AllExtended v e m ps qs → width_of t ≡ u → mean v t ≡ low u (over_all (join o) (start o) (values v ps)) → mean v (extended_joint f e m o u t ps qs) ≡ low m (extended_by e (width_of t) (mean v t))
mean-extended_joint v e m u f o t ps [] h sound a wt mt = mean-extension v e m t
mean-extended_joint v e m u f o t ps (q ∷ qs) h sound a wt mt = joint-extended v e m u f o t ps q qs h sound a wt mt (all_of_width u ps) refl

-- an extension of an extension by zeros
extended_zeros : (v : Valuation) (e : Extension) (m u : Width) (t p : Tree) → width_of t ≡ u → mean v t ≡ low u (low (width_of p) (mean v p)) → (b : Bool) → narrower (width_of p) u ≡ b → mean v (cond b (extension Zero m p) (extension e m t)) ≡ low m (extended_by e (width_of t) (mean v t))
extended_zeros v e m u t p wt mt true n =
    let less = narrower-less (width_of p) u n in
    let here : mean v t ≡ low (width_of p) (mean v p) = mt ∙ low-within (width_of p) u (mean v p) (omega arith) in
    ap (low m) (sym (kept e less) ∙ ap (extended_by e u) (sym here) ∙ ap (λ y. extended_by e y (mean v t)) (sym wt))
  where
    kept : (e : Extension) → bits_of (width_of p) < bits_of u → extended_by e u (low (width_of p) (mean v p)) ≡ low (width_of p) (mean v p)
    kept Zero l = low-within (width_of p) u (mean v p) (omega arith)
    kept Sign l = sign_of_zeros (width_of p) u (mean v p) l
extended_zeros v e m u t p wt mt false n = mean-extension v e m t

-- an extension by the sign of an extension by the sign
extended_signs : (v : Valuation) (e : Extension) (m u : Width) (t p : Tree) → width_of t ≡ u → mean v t ≡ low u (sign_extended (width_of p) (mean v p)) → mean v (of_sign e m u t p) ≡ low m (extended_by e (width_of t) (mean v t))
extended_signs v Zero m u t p wt mt = refl
extended_signs v Sign m u t p wt mt = go (narrower (width_of p) u) refl
  where
    go : (b : Bool) → narrower (width_of p) u ≡ b → mean v (cond b (extension Sign m p) (extension Sign m t)) ≡ low m (sign_extended (width_of t) (mean v t))
    go true n =
        let less = narrower-less (width_of p) u n in
        let back = signed-sign_extended (width_of p) u (mean v p) (omega arith) in
        ap (low m) (sym (ap (wrapped W64) back) ∙ ap (sign_extended u) (sym mt) ∙ ap (λ y. sign_extended y (mean v t)) (sym wt))
    go false n = refl

mean-extended_node : (v : Valuation) (e : Extension) (m : Width) (f : Joint → List Tree → Tree) (h : Head) (u : Width) (n : ℕ) (s : List ℕ) (ps : Trees) (qs : List Tree) → MakesAre v m f → AllExtended v e m ps qs → mean v (extended_node f e m h u (Node h u n s ps) ps qs) ≡ low m (extended_by e (own_width h u) (mean v (Node h u n s ps)))
mean-extended_node v e m f heads.And u n s ps qs sound a = mean-extended_joint v e m u f And (Node heads.And u n s ps) ps qs tt sound a refl refl
mean-extended_node v e m f heads.Ior u n s ps qs sound a = mean-extended_joint v e m u f Ior (Node heads.Ior u n s ps) ps qs tt sound a refl refl
mean-extended_node v e m f heads.Xor u n s ps qs sound a = mean-extended_joint v e m u f Xor (Node heads.Xor u n s ps) ps qs tt sound a refl refl
mean-extended_node v e m f heads.Zext u n s (tree p no_trees) qs sound a = extended_zeros v e m u (Node heads.Zext u n s (tree p no_trees)) p refl refl (narrower (width_of p) u) refl
mean-extended_node v e m f heads.Sext u n s (tree p no_trees) qs sound a = extended_signs v e m u (Node heads.Sext u n s (tree p no_trees)) p refl refl
mean-extended_node v e m f h u n s ps qs sound a = mean-extension v e m (Node h u n s ps)

mutual
  pub mean-extended : (v : Valuation) (e : Extension) (m : Width) (f : Joint → List Tree → Tree) (t : Tree) → MakesAre v m f → mean v (extended f e m t) ≡ low m (extended_by e (width_of t) (mean v t))
  mean-extended v e m f (Sum u c no_atoms) sound =
      mean-constant v m (extended_by e u c) ∙ ap (low m) (sym (extended-cut e u c) ∙ ap (extended_by e u) (sym (low_plus_zero u c)))
  mean-extended v e m f (Sum u c (atom k t xs)) sound = mean-extension v e m (Sum u c (atom k t xs))
  mean-extended v e m f (Node h u n s ps) sound = mean-extended_node v e m f h u n s ps (extended_all f e m ps) sound (all-extended v e m f ps sound)

  pub all-extended : (v : Valuation) (e : Extension) (m : Width) (f : Joint → List Tree → Tree) (ps : Trees) → MakesAre v m f → AllExtended v e m ps (extended_all f e m ps)
  all-extended v e m f no_trees sound = tt
  all-extended v e m f (tree t ts) sound = (mean-extended v e m f t sound, all-extended v e m f ts sound)
