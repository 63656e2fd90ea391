-- What truncation means.
use Rattle.std.proofs.Common.{◌≡◌, ℕ, ◌+◌, ◌*◌, ◌%◌, ◌^◌, ◌≤◌, refl, sym, ◌∙◌, ap, arith, tests, cond, Bool, true, false, List, [], ◌∷◌}
use Rattle.std.proofs.Math.Nat.{mod-mod}
use Rattle.bits64.specs.declared.Width.{Width}
use Rattle.bits64.specs.declared.Width.TheVariants.{W8, W16, W32, W64}
use Rattle.bits64.specs.Words.{bits_of, low, sign_extended}
use Rattle.term_tree.specs.declared.head.Head.{Head}
use Rattle.term_tree.specs.declared.head.Head.TheVariants as heads
use Rattle.term_tree.specs.declared.head.Joint.{Joint}
use Rattle.term_tree.specs.declared.head.Joint.TheVariants.{Mul, And, Ior, Xor}
use Rattle.term_tree.specs.Tree.{Tree, Atoms, Trees, AtomTree, Sum, Node, no_atoms, atom, no_trees, tree, width_of, own_width}
use Rattle.term_mean.specs.Meaning.{Valuation, mean, weighed, values, over_all}
use Rattle.term_mean.specs.Sums.{summed}
use Rattle.term_tree.specs.Form.{same_width, narrower}
use Rattle.term_mean.specs.Joints.{join, start}
use Rattle.term_mean.specs.Cuts.{one_part, extension_cut, cut_node, cut, cut_atoms, cut_all}
use Rattle.term_mean.proofs.Modulo.{same-add, same-mul, same-cut}
use Rattle.term_tree.proofs.OrderLaws.{same_width-true}
use Rattle.term_mean.proofs.SumLaws.{mean-summed, mean-cut, weight}
use Rattle.term_mean.proofs.JoinLaws.{folded}
use Rattle.term_mean.proofs.JoinedLaws.{same-join}

-- what is cut to w bits and then to fewer
pub low-low : (m w : Width) (n : ℕ) → bits_of m ≤ bits_of w → low m (low w n) ≡ low m n
low-low W8 W8 n h = omega arith
low-low W8 W16 n h = omega arith
low-low W8 W32 n h = omega arith
low-low W8 W64 n h = omega arith
low-low W16 W8 n h = omega arith
low-low W16 W16 n h = omega arith
low-low W16 W32 n h = omega arith
low-low W16 W64 n h = omega arith
low-low W32 W8 n h = omega arith
low-low W32 W16 n h = omega arith
low-low W32 W32 n h = omega arith
low-low W32 W64 n h = omega arith
low-low W64 W8 n h = omega arith
low-low W64 W16 n h = omega arith
low-low W64 W32 n h = omega arith
low-low W64 W64 n h = mod-mod n (2 ^ 64)

pub narrower-true : (m w : Width) → narrower m w ≡ true → bits_of m ≤ bits_of w
narrower-true m w e = grind (arith, tests)

pub narrower-false : (m w : Width) → narrower m w ≡ false → bits_of w ≤ bits_of m
narrower-false m w e = grind (arith, tests)

-- extensions change no bit below
pub sign_extended-low : (m v : Width) (n : ℕ) → bits_of m ≤ bits_of v → low m (sign_extended v n) ≡ low m n
sign_extended-low W8 W8 n h = grind arith
sign_extended-low W8 W16 n h = grind arith
sign_extended-low W8 W32 n h = grind arith
sign_extended-low W8 W64 n h = grind arith
sign_extended-low W16 W8 n h = absurd (omega arith)
sign_extended-low W16 W16 n h = grind arith
sign_extended-low W16 W32 n h = grind arith
sign_extended-low W16 W64 n h = grind arith
sign_extended-low W32 W8 n h = absurd (omega arith)
sign_extended-low W32 W16 n h = absurd (omega arith)
sign_extended-low W32 W32 n h = grind arith
sign_extended-low W32 W64 n h = grind arith
sign_extended-low W64 W8 n h = absurd (omega arith)
sign_extended-low W64 W16 n h = absurd (omega arith)
sign_extended-low W64 W32 n h = absurd (omega arith)
sign_extended-low W64 W64 n h = grind arith

-- part by part, what was cut has the low bits of the part
abbrev pub AllCut : Valuation → Width → Trees → List Tree → Type 0
AllCut v m no_trees [] = Unit {0}
AllCut v m no_trees (q ∷ qs) = ⊥
AllCut v m (tree p ps) [] = ⊥
AllCut v m (tree p ps) (q ∷ qs) = (mean v q ≡ low m (mean v p)) × AllCut v m ps qs

folded-cut : (v : Valuation) (m : Width) (o : Joint) (ps : Trees) (qs : List Tree) → AllCut v m ps qs → low m (folded v o qs) ≡ low m (over_all (join o) (start o) (values v ps))
folded-cut v m o no_trees [] a = refl
folded-cut v m o no_trees (q ∷ qs) a = absurd a
folded-cut v m o (tree p ps) [] a = absurd a
folded-cut v m o (tree p ps) (q ∷ qs) a =
    same-join o (bits_of m) (mean v q) (mean v p) (folded v o qs) (over_all (join o) (start o) (values v ps)) (ap (low m) a.0 ∙ same-cut (2 ^ bits_of m) (mean v p)) (folded-cut v m o ps qs a.1)

abbrev pub MakesAre : Valuation → Width → (Joint → List Tree → Tree) → Type 0
MakesAre v m f = (o : Joint) (ts : List Tree) → mean v (f o ts) ≡ low m (folded v o ts)

le_same : (m w : Width) → m ≡ w → bits_of m ≤ bits_of w
le_same m w e = rw e (omega arith)

-- an extension of p, cut
mean-extension_cut : (v : Valuation) (m : Width) (p q : Tree) (h : Head) (e : Width → ℕ → ℕ) → ((n : ℕ) → bits_of m ≤ bits_of (width_of p) → low m (e (width_of p) n) ≡ low m n) → mean v (one_part h m p) ≡ low m (e (width_of p) (mean v p)) → mean v q ≡ low m (mean v p) → mean v (extension_cut h m p q) ≡ low m (e (width_of p) (mean v p))
mean-extension_cut v m p q h e keeps raw cutting = go (narrower m (width_of p)) refl (same_width m (width_of p)) refl
  where
    go : (a : Bool) → narrower m (width_of p) ≡ a → (b : Bool) → same_width m (width_of p) ≡ b → mean v (cond a q (cond b p (one_part h m p))) ≡ low m (e (width_of p) (mean v p))
    go true f b g = cutting ∙ sym (keeps (mean v p) (narrower-true m (width_of p) f))
    go false f true g =
        let same = same_width-true m (width_of p) g in
        sym (mean-cut v p) ∙ ap (λ x. low x (mean v p)) (sym same) ∙ sym (keeps (mean v p) (le_same m (width_of p) same))
    go false f false g = raw

mean-cut_node : (v : Valuation) (m w : Width) (f : Joint → List Tree → Tree) (h : Head) (n : ℕ) (s : List ℕ) (ps : Trees) (qs : List Tree) → MakesAre v m f → bits_of m ≤ bits_of (own_width h w) → AllCut v m ps qs → mean v (cut_node f m h (Node h w n s ps) ps qs) ≡ low m (mean v (Node h w n s ps))
mean-cut_node v m w f heads.Mul n s ps qs sound le all = sound Mul qs ∙ folded-cut v m Mul ps qs all ∙ sym (low-low m w _ le)
mean-cut_node v m w f heads.And n s ps qs sound le all = sound And qs ∙ folded-cut v m And ps qs all ∙ sym (low-low m w _ le)
mean-cut_node v m w f heads.Ior n s ps qs sound le all = sound Ior qs ∙ folded-cut v m Ior ps qs all ∙ sym (low-low m w _ le)
mean-cut_node v m w f heads.Xor n s ps qs sound le all = sound Xor qs ∙ folded-cut v m Xor ps qs all ∙ sym (low-low m w _ le)
mean-cut_node v m w f heads.Trunc n s (tree p no_trees) (q ∷ []) sound le all = all.0 ∙ sym (low-low m w (mean v p) le)
mean-cut_node v m w f heads.Zext n s (tree p no_trees) (q ∷ []) sound le all =
    mean-extension_cut v m p q heads.Zext (λ u a. low u a) (λ a g. low-low m (width_of p) a g) refl all.0 ∙ sym (low-low m w (low (width_of p) (mean v p)) le)
mean-cut_node v m w f heads.Sext n s (tree p no_trees) (q ∷ []) sound le all =
    mean-extension_cut v m p q heads.Sext (λ u a. sign_extended u a) (λ a g. sign_extended-low m (width_of p) a g) refl all.0 ∙ sym (low-low m w (sign_extended (width_of p) (mean v p)) le)
mean-cut_node v m w f h n s ps qs sound le all = refl

-- a sum of its width keeps its number when it is cut to it
pub mean-summed_cut : (v : Valuation) (m : Width) (c : ℕ) (xs : List AtomTree) (n : ℕ) → weight v xs % 2 ^ bits_of m ≡ n % 2 ^ bits_of m → mean v (summed m c xs) ≡ low m (c + n)
mean-summed_cut v m c xs n e = mean-summed v m c xs ∙ same-add (2 ^ bits_of m) c c (weight v xs) n refl e

-- one level, whether it is cut or not
cut_if_sum : (v : Valuation) (m : Width) (f : Joint → List Tree → Tree) (w : Width) (c : ℕ) (xs : Atoms) → weight v (cut_atoms f m xs) % 2 ^ bits_of m ≡ weighed v xs % 2 ^ bits_of m → (b : Bool) → narrower m w ≡ b → mean v (cond b (summed m c (cut_atoms f m xs)) (one_part heads.Trunc m (Sum w c xs))) ≡ low m (mean v (Sum w c xs))
cut_if_sum v m f w c xs inner true e = mean-summed_cut v m c (cut_atoms f m xs) (weighed v xs) inner ∙ sym (low-low m w (c + weighed v xs) (narrower-true m w e))
cut_if_sum v m f w c xs inner false e = refl

cut_if_node : (v : Valuation) (m : Width) (f : Joint → List Tree → Tree) (h : Head) (w : Width) (n : ℕ) (s : List ℕ) (ps : Trees) → MakesAre v m f → AllCut v m ps (cut_all f m ps) → (b : Bool) → narrower m (own_width h w) ≡ b → mean v (cond b (cut_node f m h (Node h w n s ps) ps (cut_all f m ps)) (one_part heads.Trunc m (Node h w n s ps))) ≡ low m (mean v (Node h w n s ps))
cut_if_node v m f h w n s ps sound all true e = mean-cut_node v m w f h n s ps (cut_all f m ps) sound (narrower-true m (own_width h w) e) all
cut_if_node v m f h w n s ps sound all false e = refl

cut_one_more : (v : Valuation) (m : Width) (b t : Tree) (k x y : ℕ) → mean v b ≡ low m (mean v t) → x % 2 ^ bits_of m ≡ y % 2 ^ bits_of m → (low m k * mean v b + x) % 2 ^ bits_of m ≡ (k * mean v t + y) % 2 ^ bits_of m
cut_one_more v m b t k x y q r =
    let z : ℕ = 2 ^ bits_of m in
    let b' : mean v b % z ≡ mean v t % z = ap (low m) q ∙ same-cut z (mean v t) in
    same-add z (low m k * mean v b) (k * mean v t) x y (same-mul z (low m k) k (mean v b) (mean v t) (same-cut z k) b') r

mutual
  pub mean-cut_tree : (v : Valuation) (m : Width) (f : Joint → List Tree → Tree) (t : Tree) → MakesAre v m f → mean v (cut f m t) ≡ low m (mean v t)
  mean-cut_tree v m f (Sum w c xs) sound = cut_if_sum v m f w c xs (weight-cut_atoms v m f xs sound) (narrower m w) refl
  mean-cut_tree v m f (Node h w n s ps) sound = cut_if_node v m f h w n s ps sound (all-cut_all v m f ps sound) (narrower m (own_width h w)) refl

  pub weight-cut_atoms : (v : Valuation) (m : Width) (f : Joint → List Tree → Tree) (xs : Atoms) → MakesAre v m f → weight v (cut_atoms f m xs) % 2 ^ bits_of m ≡ weighed v xs % 2 ^ bits_of m
  weight-cut_atoms v m f no_atoms sound = refl
  weight-cut_atoms v m f (atom k t xs) sound = cut_one_more v m (cut f m t) t k (weight v (cut_atoms f m xs)) (weighed v xs) (mean-cut_tree v m f t sound) (weight-cut_atoms v m f xs sound)

  pub all-cut_all : (v : Valuation) (m : Width) (f : Joint → List Tree → Tree) (ps : Trees) → MakesAre v m f → AllCut v m ps (cut_all f m ps)
  all-cut_all v m f no_trees sound = tt
  all-cut_all v m f (tree t ts) sound = (mean-cut_tree v m f t sound, all-cut_all v m f ts sound)
