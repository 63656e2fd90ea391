-- The lower half of a product is the same for signed and unsigned words, and the two halves make the whole.
use Rattle.std.proofs.Common.{◌≡◌, ◌<◌, ◌≤◌, ◌+◌, ◌-◌, ◌*◌, ◌^◌, ℕ, suc, ℤ, pos, negsuc, ◌+ℤ◌, ◌*ℤ◌, unsigned_abs, arith, sym, ap, ◌∙◌, lit≤}
use Rattle.std.proofs.Math.Nat.{mul-le-mul}
use Rattle.std.proofs.lemmas.Nat.{mul-mod, div-add-mod'}
use Rattle.std.proofs.lemmas.Int.{unsigned_abs-mul}
use Rattle.std.specs.Int.{int_shr}
use Rattle.bits64.specs.declared.Width.{Width}
use Rattle.bits64.specs.declared.Width.TheVariants.{W8, W16, W32, W64}
use Rattle.bits64.specs.Words.{bits_of, low, signed, wrapped, product_of, high_signed, high_unsigned, high_mixed}
use Rattle.bits64.proofs.Readings.{LiesWithin, signed-wrapped, wrapped-neg, low-same, low-fits, by_half, unsigned_abs-signed}

-- ---- the lower half

opposite : (w : Width) (x : ℕ) → x < 2 ^ bits_of w → suc (2 ^ bits_of w - 1 - x) + x ≡ 2 ^ bits_of w
opposite w x h = omega arith

wrapped-neg_right : (w : Width) (x y : ℕ) → y < 2 ^ bits_of w → wrapped w (pos x *ℤ negsuc (2 ^ bits_of w - 1 - y)) ≡ low w (x * y)
wrapped-neg_right w x y h =
    wrapped-neg w (x * suc (2 ^ bits_of w - 1 - y)) (x * y) x (omega (arith, ap (λ k. x * k) (opposite w y h)))

wrapped-neg_left : (w : Width) (x y : ℕ) → x < 2 ^ bits_of w → wrapped w (negsuc (2 ^ bits_of w - 1 - x) *ℤ pos y) ≡ low w (x * y)
wrapped-neg_left w x y h =
    wrapped-neg w (suc (2 ^ bits_of w - 1 - x) * y) (x * y) y (omega (arith, ap (λ k. k * y) (opposite w x h)))

negatives : (n x y u v : ℕ) → u + x ≡ n → v + y ≡ n → u * v + y * n ≡ x * y + u * n
negatives n x y u v e f = omega (arith, ap (λ k. u * k) f, ap (λ k. k * y) e)

wrapped-neg_both : (w : Width) (x y : ℕ) → x < 2 ^ bits_of w → y < 2 ^ bits_of w → wrapped w (negsuc (2 ^ bits_of w - 1 - x) *ℤ negsuc (2 ^ bits_of w - 1 - y)) ≡ low w (x * y)
wrapped-neg_both w x y h k =
    low-same w _ _ _ _ (negatives (2 ^ bits_of w) x y (suc (2 ^ bits_of w - 1 - x)) (suc (2 ^ bits_of w - 1 - y)) (opposite w x h) (opposite w y k))

low-product : (w : Width) (a b : ℕ) → low w (low w a * low w b) ≡ product_of w a b
low-product w a b = sym (mul-mod a b (2 ^ bits_of w))

-- of a signed and an unsigned word
pub wrapped-mixed_product : (w : Width) (a b : ℕ) → wrapped w (signed w a *ℤ pos (low w b)) ≡ product_of w a b
wrapped-mixed_product w a b =
    by_half (λ x. wrapped w (x *ℤ pos (low w b)) ≡ product_of w a b) w a
    (λ _. low-product w a b)
    (λ _. wrapped-neg_left w (low w a) (low w b) (low-fits w a) ∙ low-product w a b)

-- of two signed words
pub wrapped-product : (w : Width) (a b : ℕ) → wrapped w (signed w a *ℤ signed w b) ≡ product_of w a b
wrapped-product w a b =
    by_half (λ y. wrapped w (signed w a *ℤ y) ≡ product_of w a b) w b
    (λ _. wrapped-mixed_product w a b)
    (λ _. by_half (λ x. wrapped w (x *ℤ negsuc (2 ^ bits_of w - 1 - low w b)) ≡ product_of w a b) w a
    (λ _. wrapped-neg_right w (low w a) (low w b) (low-fits w b) ∙ low-product w a b)
    (λ _. wrapped-neg_both w (low w a) (low w b) (low-fits w a) (low-fits w b) ∙ low-product w a b))

-- ---- both halves

pub halves-unsigned : (w : Width) (a b : ℕ) → high_unsigned w a b * 2 ^ bits_of w + product_of w a b ≡ low w a * low w b
halves-unsigned w a b =
    ap (λ k. high_unsigned w a b * 2 ^ bits_of w + k) (sym (low-product w a b)) ∙ div-add-mod' (low w a * low w b) (2 ^ bits_of w)

-- a number is its quotient by 2 ^ w, rounded down, times 2 ^ w, and the word that it wraps to
shift-wrapped : (w : Width) (z : ℤ) → int_shr z (bits_of w) *ℤ pos (2 ^ bits_of w) +ℤ pos (wrapped w z) ≡ z
shift-wrapped W8 (pos n) = grind arith
shift-wrapped W16 (pos n) = grind arith
shift-wrapped W32 (pos n) = grind arith
shift-wrapped W64 (pos n) = grind arith
shift-wrapped W8 (negsuc n) = grind arith
shift-wrapped W16 (negsuc n) = grind arith
shift-wrapped W32 (negsuc n) = grind arith
shift-wrapped W64 (negsuc n) = grind arith

-- the quotient of a number of 2 * w bits is one of w bits
shift-fits : (w : Width) (z : ℤ) → unsigned_abs z ≤ 2 ^ (bits_of w - 1) * (2 ^ bits_of w - 1) → LiesWithin (2 ^ (bits_of w - 1)) (int_shr z (bits_of w))
shift-fits W8 (pos n) h = omega arith
shift-fits W16 (pos n) h = omega arith
shift-fits W32 (pos n) h = omega arith
shift-fits W64 (pos n) h = omega arith
shift-fits W8 (negsuc n) h = omega arith
shift-fits W16 (negsuc n) h = omega arith
shift-fits W32 (negsuc n) h = omega arith
shift-fits W64 (negsuc n) h = omega arith

halves : (w : Width) (z : ℤ) → unsigned_abs z ≤ 2 ^ (bits_of w - 1) * (2 ^ bits_of w - 1) → signed w (wrapped w (int_shr z (bits_of w))) *ℤ pos (2 ^ bits_of w) +ℤ pos (wrapped w z) ≡ z
halves w z h =
    ap (λ k. k *ℤ pos (2 ^ bits_of w) +ℤ pos (wrapped w z)) (signed-wrapped w (int_shr z (bits_of w)) (shift-fits w z h)) ∙ shift-wrapped w z

half_below : (w : Width) → 2 ^ (bits_of w - 1) ≤ 2 ^ bits_of w - 1
half_below W8 = lit≤ tt
half_below W16 = lit≤ tt
half_below W32 = lit≤ tt
half_below W64 = lit≤ tt

product_fits : (w : Width) (a : ℕ) (z : ℤ) → unsigned_abs z ≤ 2 ^ bits_of w - 1 → unsigned_abs (signed w a *ℤ z) ≤ 2 ^ (bits_of w - 1) * (2 ^ bits_of w - 1)
product_fits w a z h =
    omega (arith, unsigned_abs-mul (signed w a) z, mul-le-mul (unsigned_abs-signed w a) h)

pub halves-signed : (w : Width) (a b : ℕ) → signed w (high_signed w a b) *ℤ pos (2 ^ bits_of w) +ℤ pos (product_of w a b) ≡ signed w a *ℤ signed w b
halves-signed w a b =
    let below : unsigned_abs (signed w b) ≤ 2 ^ bits_of w - 1 = omega (arith, unsigned_abs-signed w b, half_below w) in
    ap (λ k. signed w (high_signed w a b) *ℤ pos (2 ^ bits_of w) +ℤ pos k) (sym (wrapped-product w a b)) ∙ halves w (signed w a *ℤ signed w b) (product_fits w a (signed w b) below)

pub halves-mixed : (w : Width) (a b : ℕ) → signed w (high_mixed w a b) *ℤ pos (2 ^ bits_of w) +ℤ pos (product_of w a b) ≡ signed w a *ℤ pos (low w b)
halves-mixed w a b =
    let below : low w b ≤ 2 ^ bits_of w - 1 = omega (arith, low-fits w b) in
    ap (λ k. signed w (high_mixed w a b) *ℤ pos (2 ^ bits_of w) +ℤ pos k) (sym (wrapped-mixed_product w a b)) ∙ halves w (signed w a *ℤ pos (low w b)) (product_fits w a (pos (low w b)) below)
