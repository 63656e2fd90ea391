-- Masks, and products and operators on bits at each width: what the rules make of them has their number.
use Rattle.std.proofs.Common.{◌≡◌, ℕ, ◌-◌, ◌^◌, ◌<◌, refl, sym, ◌∙◌, ap, arith, cond, eqb, Bool, true, false, subst, List, [], ◌∷◌, Option, Some, None, bit_and}
use Rattle.std.proofs.Math.Nat.{mod-mod}
use Rattle.std.proofs.lemmas.Nat.{and_comm, and_mask}
use Rattle.bits64.specs.declared.Width.{Width}
use Rattle.bits64.specs.declared.Width.TheVariants.{W8, W16, W32, W64}
use Rattle.bits64.specs.Words.{bits_of, low}
use Rattle.term_tree.specs.declared.head.Joint.{Joint}
use Rattle.term_tree.specs.declared.head.Joint.TheVariants.{Mul, And, Ior, Xor}
use Rattle.term_tree.specs.declared.head.Extension.TheVariants.{Zero}
use Rattle.term_tree.specs.Tree.{Tree, width_of, trees_of}
use Rattle.term_tree.specs.Form.{same_width}
use Rattle.term_tree.proofs.OrderLaws.{eqb-true, same_width-true}
use Rattle.term_mean.specs.Meaning.{Valuation, mean, values}
use Rattle.term_mean.specs.Joints.{Joined, join, start, gathered, plain, joined}
use Rattle.term_mean.specs.Masks.{mask_8, mask_16, mask_32, mask_in, masked, made_of, made, made_8, cut_8, narrow_16, made_16, cut_16, narrow_32, made_32, cut_32, narrow_64, made_64, made_at, cut_to, low_8}
use Rattle.term_mean.proofs.SumLaws.{mean-cut}
use Rattle.term_mean.proofs.JoinLaws.{folded}
use Rattle.term_mean.proofs.JoinedLaws.{same-join, join-start, join-start_right, onto-start, total-take_all, mean-plain, mean-finished, mean-joined}
use Rattle.term_mean.proofs.CutLaws.{MakesAre, low-low, mean-cut_tree}
use Rattle.term_mean.proofs.ExtendedLaws.{mean-extended}
use Rattle.term_mean.proofs.Widths.{MakesWidth, width-finished, width-joined, width-cut, width-extended}

-- a mask is all ones of a width below
abbrev pub IsMask : Width → ℕ → Width → Type 0
IsMask w c k = (c ≡ 2 ^ bits_of k - 1) × (bits_of k < bits_of w)

in_8 : (w : Width) (c : ℕ) (o : Option Width) (k : Width) → 8 < bits_of w → (o ≡ Some k → IsMask w c k) → mask_8 c o ≡ Some k → IsMask w c k
in_8 w c o k h later = go (eqb c (2 ^ 8 - 1)) refl
  where
    go : (b : Bool) → eqb c (2 ^ 8 - 1) ≡ b → cond b (Some W8) o ≡ Some k → IsMask w c k
    go true e f = let same : W8 ≡ k = cc in subst (IsMask w c) same (eqb-true c (2 ^ 8 - 1) e, h)
    go false e f = later f

in_16 : (w : Width) (c : ℕ) (o : Option Width) (k : Width) → 16 < bits_of w → (o ≡ Some k → IsMask w c k) → mask_16 c o ≡ Some k → IsMask w c k
in_16 w c o k h later = go (eqb c (2 ^ 16 - 1)) refl
  where
    go : (b : Bool) → eqb c (2 ^ 16 - 1) ≡ b → cond b (Some W16) o ≡ Some k → IsMask w c k
    go true e f = let same : W16 ≡ k = cc in subst (IsMask w c) same (eqb-true c (2 ^ 16 - 1) e, h)
    go false e f = later f

in_32 : (w : Width) (c : ℕ) (k : Width) → 32 < bits_of w → mask_32 c ≡ Some k → IsMask w c k
in_32 w c k h = go (eqb c (2 ^ 32 - 1)) refl
  where
    go : (b : Bool) → eqb c (2 ^ 32 - 1) ≡ b → cond b (Some W32) None ≡ Some k → IsMask w c k
    go true e f = let same : W32 ≡ k = cc in subst (IsMask w c) same (eqb-true c (2 ^ 32 - 1) e, h)
    go false e f = cc

is-mask : (w : Width) (c : ℕ) (k : Width) → mask_in w c ≡ Some k → IsMask w c k
is-mask W8 c k e = cc
is-mask W16 c k e = in_8 W16 c None k (omega arith) (λ f. cc) e
is-mask W32 c k e = in_8 W32 c (mask_16 c None) k (omega arith) (in_16 W32 c None k (omega arith) (λ f. cc)) e
is-mask W64 c k e = in_8 W64 c (mask_16 c (mask_32 c)) k (omega arith) (in_16 W64 c (mask_32 c) k (omega arith) (in_32 W64 c k (omega arith))) e

-- what cuts to the widths below
abbrev pub Narrows : Valuation → Width → (Width → Tree → Tree) → Type 0
Narrows v w f = (k : Width) (t : Tree) → bits_of k < bits_of w → (mean v (f k t) ≡ low k (mean v t)) × (width_of (f k t) ≡ k)

mean-masked : (v : Valuation) (f : Width → Tree → Tree) (w : Width) (c : ℕ) (ts : List Tree) (o : Option Width) → Narrows v w f → mask_in w c ≡ o → mean v (masked o f w c ts) ≡ low w (join And c (folded v And ts))
mean-masked v f w c ts None n e = mean-finished v And w c ts
mean-masked v f w c [] (Some k) n e = mean-finished v And w c []
mean-masked v f w c (t ∷ ts) (Some k) n e =
    let mask = is-mask w c k e in
    let all : ℕ = folded v And (t ∷ ts) in
    let p : Tree = plain And w (t ∷ ts) in
    let less : bits_of k < bits_of w = mask.1 in
    let cutting = n k p less in
    let here : mean v (f k p) ≡ low k all = cutting.0 ∙ ap (low k) (mean-plain v And w (t ∷ ts)) ∙ low-low k w all (omega arith) in
    mean-extended v Zero w (λ o us. joined o w us) (f k p) (λ o us. mean-joined v o w us)
    ∙ ap (λ x. low w (low x (mean v (f k p)))) cutting.1
    ∙ ap (λ x. low w (low k x)) here
    ∙ ap (low w) (mod-mod all (2 ^ bits_of k))
    ∙ ap (low w) (sym (and_mask all (bits_of k)) ∙ and_comm all (2 ^ bits_of k - 1) ∙ ap (λ x. bit_and x all) (sym mask.0))

mean-made_of : (v : Valuation) (f : Width → Tree → Tree) (o : Joint) (w : Width) (c : ℕ) (ts : List Tree) → Narrows v w f → mean v (made_of f o w c ts) ≡ low w (join o c (folded v o ts))
mean-made_of v f Mul w c ts n = mean-finished v Mul w c ts
mean-made_of v f And w c ts n = mean-masked v f w c ts (mask_in w c) n refl
mean-made_of v f Ior w c ts n = mean-finished v Ior w c ts
mean-made_of v f Xor w c ts n = mean-finished v Xor w c ts

-- the constant and the parts that were gathered
gathered-mean : (v : Valuation) (o : Joint) (w : Width) (ts : List Tree) → low w (join o (low w (gathered o w ts).constant) (folded v o (gathered o w ts).parts)) ≡ low w (folded v o ts)
gathered-mean v o w ts =
    let j0 : Joined = record { constant = start o; parts = [] } in
    let j : Joined = gathered o w ts in
    let n : ℕ = join o (start o) (start o) in
    same-join o (bits_of w) (low w j.constant) j.constant (folded v o j.parts) (folded v o j.parts) (mod-mod j.constant (2 ^ bits_of w)) refl
    ∙ total-take_all v o w ts j0
    ∙ onto-start o w n (values v (trees_of ts))
    ∙ same-join o (bits_of w) (folded v o ts) (folded v o ts) n (start o) refl (join-start o w (start o))
    ∙ join-start_right o w (folded v o ts)

mean-made : (v : Valuation) (f : Width → Tree → Tree) (o : Joint) (w : Width) (ts : List Tree) → Narrows v w f → mean v (made f o w ts) ≡ low w (folded v o ts)
mean-made v f o w ts n = mean-made_of v f o w (low w (gathered o w ts).constant) (gathered o w ts).parts n ∙ gathered-mean v o w ts

width-masked : (f : Width → Tree → Tree) (w : Width) (c : ℕ) (ts : List Tree) (o : Option Width) → width_of (masked o f w c ts) ≡ w
width-masked f w c ts None = width-finished And w c ts
width-masked f w c [] (Some k) = width-finished And w c []
width-masked f w c (t ∷ ts) (Some k) = width-extended (λ o us. joined o w us) Zero w (f k (plain And w (t ∷ ts))) (λ o us. width-joined o w us)

width-made_of : (f : Width → Tree → Tree) (o : Joint) (w : Width) (c : ℕ) (ts : List Tree) → width_of (made_of f o w c ts) ≡ w
width-made_of f Mul w c ts = width-finished Mul w c ts
width-made_of f And w c ts = width-masked f w c ts (mask_in w c)
width-made_of f Ior w c ts = width-finished Ior w c ts
width-made_of f Xor w c ts = width-finished Xor w c ts

width-made : (f : Width → Tree → Tree) (o : Joint) (w : Width) (ts : List Tree) → width_of (made f o w ts) ≡ w
width-made f o w ts = width-made_of f o w (low w (gathered o w ts).constant) (gathered o w ts).parts

-- ---- the widths, from below
width-made_8 : MakesWidth W8 made_8
unfolding made_8
width-made_8 o ts = width-joined o W8 ts

mean-made_8 : (v : Valuation) → MakesAre v W8 made_8
unfolding made_8
mean-made_8 v o ts = mean-joined v o W8 ts

is-cut_8 : (v : Valuation) (t : Tree) → (mean v (cut_8 t) ≡ low W8 (mean v t)) × (width_of (cut_8 t) ≡ W8)
unfolding cut_8
is-cut_8 v t = (mean-cut_tree v W8 made_8 t (mean-made_8 v), width-cut made_8 W8 t width-made_8)

narrows-16 : (v : Valuation) → Narrows v W16 narrow_16
narrows-16 v W8 t h = is-cut_8 v t
narrows-16 v W16 t h = absurd (omega arith)
narrows-16 v W32 t h = absurd (omega arith)
narrows-16 v W64 t h = absurd (omega arith)

width-made_16 : MakesWidth W16 made_16
unfolding made_16
width-made_16 o ts = width-made narrow_16 o W16 ts

mean-made_16 : (v : Valuation) → MakesAre v W16 made_16
unfolding made_16
mean-made_16 v o ts = mean-made v narrow_16 o W16 ts (narrows-16 v)

is-cut_16 : (v : Valuation) (t : Tree) → (mean v (cut_16 t) ≡ low W16 (mean v t)) × (width_of (cut_16 t) ≡ W16)
unfolding cut_16
is-cut_16 v t = (mean-cut_tree v W16 made_16 t (mean-made_16 v), width-cut made_16 W16 t width-made_16)

narrows-32 : (v : Valuation) → Narrows v W32 narrow_32
narrows-32 v W8 t h = is-cut_8 v t
narrows-32 v W16 t h = is-cut_16 v t
narrows-32 v W32 t h = absurd (omega arith)
narrows-32 v W64 t h = absurd (omega arith)

width-made_32 : MakesWidth W32 made_32
unfolding made_32
width-made_32 o ts = width-made narrow_32 o W32 ts

mean-made_32 : (v : Valuation) → MakesAre v W32 made_32
unfolding made_32
mean-made_32 v o ts = mean-made v narrow_32 o W32 ts (narrows-32 v)

is-cut_32 : (v : Valuation) (t : Tree) → (mean v (cut_32 t) ≡ low W32 (mean v t)) × (width_of (cut_32 t) ≡ W32)
unfolding cut_32
is-cut_32 v t = (mean-cut_tree v W32 made_32 t (mean-made_32 v), width-cut made_32 W32 t width-made_32)

narrows-64 : (v : Valuation) → Narrows v W64 narrow_64
narrows-64 v W8 t h = is-cut_8 v t
narrows-64 v W16 t h = is-cut_16 v t
narrows-64 v W32 t h = is-cut_32 v t
narrows-64 v W64 t h = absurd (omega arith)

width-made_64 : MakesWidth W64 made_64
unfolding made_64
width-made_64 o ts = width-made narrow_64 o W64 ts

mean-made_64 : (v : Valuation) → MakesAre v W64 made_64
unfolding made_64
mean-made_64 v o ts = mean-made v narrow_64 o W64 ts (narrows-64 v)

-- ---- at any width
pub width-made_at : (w : Width) → MakesWidth w (made_at w)
width-made_at W8 o ts = width-made_8 o ts
width-made_at W16 o ts = width-made_16 o ts
width-made_at W32 o ts = width-made_32 o ts
width-made_at W64 o ts = width-made_64 o ts

pub mean-made_at : (v : Valuation) (w : Width) → MakesAre v w (made_at w)
mean-made_at v W8 o ts = mean-made_8 v o ts
mean-made_at v W16 o ts = mean-made_16 v o ts
mean-made_at v W32 o ts = mean-made_32 v o ts
mean-made_at v W64 o ts = mean-made_64 v o ts

pub is-cut_to : (v : Valuation) (w : Width) (t : Tree) → (mean v (cut_to w t) ≡ low w (mean v t)) × (width_of (cut_to w t) ≡ w)
is-cut_to v W8 t = is-cut_8 v t
is-cut_to v W16 t = is-cut_16 v t
is-cut_to v W32 t = is-cut_32 v t
is-cut_to v W64 t = (refl, refl)

pub is-low_8 : (v : Valuation) (t : Tree) → (mean v (low_8 t) ≡ low W8 (mean v t)) × (width_of (low_8 t) ≡ W8)
is-low_8 v t = go (same_width (width_of t) W8) refl
  where
    go : (b : Bool) → same_width (width_of t) W8 ≡ b → (mean v (cond b t (cut_8 t)) ≡ low W8 (mean v t)) × (width_of (cond b t (cut_8 t)) ≡ W8)
    go true e =
        let same = same_width-true (width_of t) W8 e in
        (sym (mean-cut v t) ∙ ap (λ x. low x (mean v t)) same, same)
    go false e = is-cut_8 v t

pub mean-made_8_at : (v : Valuation) (o : Joint) (ts : List Tree) → mean v (made_8 o ts) ≡ low W8 (folded v o ts)
mean-made_8_at v o ts = mean-made_8 v o ts

-- the width of what was cut needs no valuation
pub width-cut_to : (w : Width) (t : Tree) → width_of (cut_to w t) ≡ w
width-cut_to w t = (is-cut_to (record { reg = λ n. 0; sym = λ s. 0; memory = λ n a. 0 }) w t).1
