-- Right shifts of sums whose constant and coefficients are multiples: what the rule makes of them has their number.
use Rattle.std.proofs.Common.{◌≡◌, ℕ, zero, suc, ◌+◌, ◌*◌, ◌/◌, ◌%◌, ◌^◌, ◌<◌, refl, sym, ◌∙◌, ap, subst, arith, cond, eqb, Bool, true, false, ◌&&◌, Option, Some, None, inl, inr}
use Rattle.std.proofs.Math.Nat.{mod-mod, div-add-mod}
use Rattle.bits64.specs.declared.Width.{Width}
use Rattle.bits64.specs.declared.Width.TheVariants.{W8, W16, W32, W64}
use Rattle.bits64.specs.Words.{bits_of, low, sign_extended, shifted_right, shifted_arithmetic}
use Rattle.term_tree.specs.declared.head.Head.{Head}
use Rattle.term_tree.specs.declared.head.Head.TheVariants as heads
use Rattle.term_tree.specs.declared.head.Extension.{Extension}
use Rattle.term_tree.specs.declared.head.Extension.TheVariants.{Zero, Sign}
use Rattle.term_tree.specs.Tree.{Tree, Atoms, Sum, Node, no_atoms, atom, own_width, width_of}
use Rattle.term_tree.specs.Form.{same_width}
use Rattle.term_tree.proofs.OrderLaws.{eqb-true, same_width-true}
use Rattle.term_mean.specs.Meaning.{Valuation, mean, weighed}
use Rattle.term_mean.specs.Sums.{constant, constant_in, sum}
use Rattle.term_mean.specs.Extensions.{extended_by}
use Rattle.term_mean.specs.Masks.{made_at, cut_to, low_8}
use Rattle.term_mean.specs.Shifts.{two_parts, left_of, divides, divides_all, quotients, exact, right_exact, by_nonzero, by_constant, by_count, shifted_by, shifted}
use Rattle.term_mean.proofs.SumLaws.{weight, mean-sum, mean-cut}
use Rattle.term_mean.proofs.JoinedLaws.{and-true}
use Rattle.term_mean.proofs.CutLaws.{low-low}
use Rattle.term_mean.proofs.ExtendedLaws.{mean-extended, extended-cut, low-within}
use Rattle.term_mean.proofs.MaskLaws.{mean-made_at, is-cut_to, is-low_8}
use Rattle.term_mean.proofs.ShiftLaws.{IsShift, shift_number, mean-on_constants, mean-two_parts, mean-counted, shift-zero, mean-left, same-count, constant-is, count-cut}

-- a multiple is that many times its quotient
multiple : (d n : ℕ) → divides d n ≡ true → n ≡ d * (n / d)
multiple d n e =
    let none : n % d ≡ 0 = eqb-true (n % d) 0 e in
    let whole = div-add-mod n d in
    omega arith

weighed-quotients : (v : Valuation) (d : ℕ) (xs : Atoms) → divides_all d xs ≡ true → weighed v xs ≡ d * weight v (quotients d xs)
weighed-quotients v d no_atoms e = omega arith
weighed-quotients v d (atom k t xs) e =
    let b = and-true (divides d k) (divides_all d xs) e in
    let one = multiple d k b.0 in
    let rest = weighed-quotients v d xs b.1 in
    let x : ℕ = mean v t in
    let q : ℕ = k / d in
    let r : ℕ = weight v (quotients d xs) in
    let spread : d * q * x + d * r ≡ d * (q * x + r) = omega arith in
    ap (λ n. n * x + weighed v xs) one ∙ ap (λ n. d * q * x + n) rest ∙ spread

-- ---- which shifts leave 8, 16 or 32 bits
-- both shifts of a multiple, at one width
abbrev Leaves : Width → ℕ → Width → Type 0
Leaves w k m = (bits_of m < bits_of w) × ((x : ℕ) → (low w (shifted_right w (low w (2 ^ k * x)) k) ≡ low m x) × (low w (shifted_arithmetic w (low w (2 ^ k * x)) k) ≡ low w (sign_extended m x)))

leaves-16-8 : Leaves W16 8 W8
leaves-16-8 = (omega arith, λ x. (grind arith, grind arith))

leaves-32-24 : Leaves W32 24 W8
leaves-32-24 = (omega arith, λ x. (grind arith, grind arith))

leaves-32-16 : Leaves W32 16 W16
leaves-32-16 = (omega arith, λ x. (grind arith, grind arith))

leaves-64-56 : Leaves W64 56 W8
leaves-64-56 = (omega arith, λ x. (grind arith, grind arith))

leaves-64-48 : Leaves W64 48 W16
leaves-64-48 = (omega arith, λ x. (grind arith, grind arith))

leaves-64-32 : Leaves W64 32 W32
leaves-64-32 = (omega arith, λ x. (grind arith, grind arith))

leaves : (w : Width) (k : ℕ) (m : Width) → left_of w k ≡ Some m → Leaves w k m
leaves W8 k m = λ e. cc
leaves W16 k m = go (eqb k 8) refl
  where
    go : (b : Bool) → eqb k 8 ≡ b → cond b (Some W8) None ≡ Some m → Leaves W16 k m
    go true f e = let s : W8 ≡ m = cc in subst (λ j. Leaves W16 j m) (sym (eqb-true k 8 f)) (subst (Leaves W16 8) s leaves-16-8)
    go false f e = cc
leaves W32 k m = go (eqb k 24) refl (eqb k 16) refl
  where
    go : (b : Bool) → eqb k 24 ≡ b → (c : Bool) → eqb k 16 ≡ c → cond b (Some W8) (cond c (Some W16) None) ≡ Some m → Leaves W32 k m
    go true f c g e = let s : W8 ≡ m = cc in subst (λ j. Leaves W32 j m) (sym (eqb-true k 24 f)) (subst (Leaves W32 24) s leaves-32-24)
    go false f true g e = let s : W16 ≡ m = cc in subst (λ j. Leaves W32 j m) (sym (eqb-true k 16 g)) (subst (Leaves W32 16) s leaves-32-16)
    go false f false g e = cc
leaves W64 k m = go (eqb k 56) refl (eqb k 48) refl (eqb k 32) refl
  where
    go : (b : Bool) → eqb k 56 ≡ b → (c : Bool) → eqb k 48 ≡ c → (d : Bool) → eqb k 32 ≡ d → cond b (Some W8) (cond c (Some W16) (cond d (Some W32) None)) ≡ Some m → Leaves W64 k m
    go true f c g d i e = let s : W8 ≡ m = cc in subst (λ j. Leaves W64 j m) (sym (eqb-true k 56 f)) (subst (Leaves W64 56) s leaves-64-56)
    go false f true g d i e = let s : W16 ≡ m = cc in subst (λ j. Leaves W64 j m) (sym (eqb-true k 48 g)) (subst (Leaves W64 48) s leaves-64-48)
    go false f false g true i e = let s : W32 ≡ m = cc in subst (λ j. Leaves W64 j m) (sym (eqb-true k 32 i)) (subst (Leaves W64 32) s leaves-64-32)
    go false f false g false i e = cc

-- ---- exact shifts
abbrev pub exact_head : Extension → Head
exact_head Zero = heads.Shr
exact_head Sign = heads.Sar

exact-shifts : (e : Extension) → IsShift (exact_head e)
exact-shifts Zero = inr (inl refl)
exact-shifts Sign = inr (inr refl)

-- the sum is that many times its quotient
sum-quotient : (v : Valuation) (w u : Width) (d c : ℕ) (xs : Atoms) → u ≡ w → divides d c ≡ true → divides_all d xs ≡ true → mean v (Sum u c xs) ≡ low w (d * (c / d + weight v (quotients d xs)))
sum-quotient v w u d c xs s p q =
    let one = multiple d c p in
    let r : ℕ = weight v (quotients d xs) in
    let f : ℕ = c / d in
    let spread : d * f + d * r ≡ d * (f + r) = omega arith in
    ap (λ x. low x (c + weighed v xs)) s ∙ ap (low w) (ap (λ n. n + weighed v xs) one ∙ ap (λ n. d * f + n) (weighed-quotients v d xs q) ∙ spread)

mean-exact : (v : Valuation) (e : Extension) (w m u : Width) (k c : ℕ) (xs : Atoms) → Leaves w k m → u ≡ w → divides (2 ^ k) c ≡ true → divides_all (2 ^ k) xs ≡ true → mean v (exact e w m (2 ^ k) c xs) ≡ low w (shift_number (exact_head e) w (mean v (Sum u c xs)) k)
mean-exact v e w m u k c xs l s p q =
    let d : ℕ = 2 ^ k in
    let x : ℕ = c / d + weight v (quotients d xs) in
    let t : Tree = sum w (c / d) (quotients d xs) in
    let cutting = is-cut_to v m t in
    let here : mean v (cut_to m t) ≡ low m x = cutting.0 ∙ ap (low m) (mean-sum v w (c / d) (quotients d xs)) ∙ low-low m w x (omega (arith, l.0)) in
    mean-extended v e w (made_at w) (cut_to m t) (mean-made_at v w)
    ∙ ap (λ y. low w (extended_by e y (mean v (cut_to m t)))) cutting.1
    ∙ ap (λ y. low w (extended_by e m y)) here
    ∙ ap (low w) (extended-cut e m x)
    ∙ last e x
    ∙ ap (λ n. low w (shift_number (exact_head e) w n k)) (sym (sum-quotient v w u d c xs s p q))
  where
    narrow-low : (n : ℕ) → bits_of m < bits_of w → low w (low m n) ≡ low m n
    narrow-low n h = low-within m w n (omega arith)

    last : (e : Extension) (x : ℕ) → low w (extended_by e m x) ≡ low w (shift_number (exact_head e) w (low w (2 ^ k * x)) k)
    last Zero x = narrow-low x l.0 ∙ sym ((l.1 x).0)
    last Sign x = sym ((l.1 x).1)

mean-right_exact : (v : Valuation) (e : Extension) (w : Width) (k : ℕ) (a : Tree) (o : Option Width) → left_of w k ≡ o → mean v (right_exact o (exact_head e) e w k a (constant W8 k)) ≡ low w (shift_number (exact_head e) w (mean v a) k)
mean-right_exact v e w k (Sum u c xs) (Some m) f = go (same_width u w && (divides (2 ^ k) c && divides_all (2 ^ k) xs)) refl
  where
    go : (b : Bool) → (same_width u w && (divides (2 ^ k) c && divides_all (2 ^ k) xs)) ≡ b → mean v (cond b (exact e w m (2 ^ k) c xs) (two_parts (exact_head e) w (Sum u c xs) (constant W8 k))) ≡ low w (shift_number (exact_head e) w (mean v (Sum u c xs)) k)
    go true g =
        let p = and-true (same_width u w) (divides (2 ^ k) c && divides_all (2 ^ k) xs) g in
        let q = and-true (divides (2 ^ k) c) (divides_all (2 ^ k) xs) p.1 in
        mean-exact v e w m u k c xs (leaves w k m f) (same_width-true u w p.0) q.0 q.1
    go false g = mean-counted v (exact_head e) (exact-shifts e) w (Sum u c xs) k
mean-right_exact v e w k (Node h u n s ps) (Some m) f = mean-counted v (exact_head e) (exact-shifts e) w (Node h u n s ps) k
mean-right_exact v e w k a None f = mean-counted v (exact_head e) (exact-shifts e) w a k

-- ---- shifts by a constant, and by any count
mean-by_nonzero : (v : Valuation) (h : Head) → IsShift h → (w : Width) (a : Tree) (k : ℕ) → k % bits_of w ≡ k → mean v (by_nonzero h w a k) ≡ low w (shift_number h w (mean v a) k)
mean-by_nonzero v h (inl s) w a k e = rw s (mean-left v w a k e)
mean-by_nonzero v h (inr (inl s)) w a k e = rw s (mean-right_exact v Zero w k a (left_of w k) refl)
mean-by_nonzero v h (inr (inr s)) w a k e = rw s (mean-right_exact v Sign w k a (left_of w k) refl)

mean-by_constant : (v : Valuation) (h : Head) → IsShift h → (w : Width) (a : Tree) (k : ℕ) → k % bits_of w ≡ k → mean v (by_constant h w a k) ≡ low w (shift_number h w (mean v a) k)
mean-by_constant v h s w a zero e = go (same_width (width_of a) w) refl
  where
    go : (b : Bool) → same_width (width_of a) w ≡ b → mean v (cond b a (two_parts h w a (constant W8 0))) ≡ low w (shift_number h w (mean v a) 0)
    go true f = sym (mean-cut v a) ∙ ap (λ x. low x (mean v a)) (same_width-true (width_of a) w f) ∙ sym (shift-zero h s w (mean v a))
    go false f = mean-counted v h s w a 0
mean-by_constant v h s w a (suc k) e = mean-by_nonzero v h s w a (suc k) e

mean-by_count : (v : Valuation) (h : Head) → IsShift h → (w : Width) (a b : Tree) (o : Option ℕ) → constant_in b ≡ o → mean v (by_count o h w a b) ≡ low w (shift_number h w (mean v a) (mean v b))
mean-by_count v h s w a b (Some k) e =
    let small : k % bits_of w % bits_of w ≡ k % bits_of w = mod-mod k (bits_of w) in
    let count : k % bits_of w % bits_of w ≡ mean v b % bits_of w = small ∙ ap (λ n. n % bits_of w) (sym (constant-is v b k e)) in
    mean-by_constant v h s w a (k % bits_of w) small ∙ ap (low w) (same-count h s w (mean v a) (k % bits_of w) (mean v b) count)
mean-by_count v h s w a b None e = mean-two_parts v h s w a b

own-shift : (h : Head) → IsShift h → (w : Width) → own_width h w ≡ w
own-shift h (inl s) w = rw s refl
own-shift h (inr (inl s)) w = rw s refl
own-shift h (inr (inr s)) w = rw s refl

mean-shifted_by : (v : Valuation) (h : Head) → IsShift h → (w : Width) (a b : Tree) → mean v (shifted_by h w a b) ≡ low w (shift_number h w (mean v a) (mean v b))
mean-shifted_by v h s w a b =
    mean-on_constants v h w a b (by_count (constant_in b) h w a b) (low w (shift_number h w (mean v a) (mean v b))) (mean-by_count v h s w a b (constant_in b) refl) (ap (λ x. low x (shift_number h w (mean v a) (mean v b))) (sym (own-shift h s w)))

-- the low 8 bits of a count are that count modulo each width
pub mean-shifted : (v : Valuation) (h : Head) → IsShift h → (w : Width) (a b : Tree) → mean v (shifted h w a b) ≡ low w (shift_number h w (mean v a) (mean v b))
mean-shifted v h s w a b =
    let count : mean v (low_8 b) % bits_of w ≡ mean v b % bits_of w = ap (λ n. n % bits_of w) ((is-low_8 v b).0) ∙ count-cut w (mean v b) in
    mean-shifted_by v h s w a (low_8 b) ∙ ap (low w) (same-count h s w (mean v a) (mean v (low_8 b)) (mean v b) count)
