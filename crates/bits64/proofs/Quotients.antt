-- Wrapping a quotient, and what quotient and remainder make together.
use Rattle.std.proofs.Common.{◌≡◌, ◌<◌, ◌≤◌, ◌-◌, ◌^◌, ◌/◌, ◌%◌, ◌==◌, ℕ, zero, suc, ℤ, pos, negsuc, neg_ℤ, ◌+ℤ◌, ◌*ℤ◌, w64, to_z, of_z, arith, unsigned_abs, int_div, int_rem, FitsSigned, Bool, true, false, cond, nat_lt, if◌then◌else◌, refl, ap, ◌∙◌, inl, inr, sym}
use borrow.Author.Tests.{eqb-true}
use Rattle.std.specs.Prelude.{int_lt}
use Rattle.std.proofs.lemmas.Bool.{false≢true}
use Rattle.std.proofs.Math.Nat.{div-le_self, mod-le, mod-mod, eq-or-lt_of_le}
use Rattle.std.proofs.lemmas.Nat.{div_below}
use Rattle.std.proofs.lemmas.Int.{quot-rem}
use Rattle.bits64.specs.declared.Width.{Width}
use Rattle.bits64.specs.declared.Width.TheVariants.{W8, W16, W32, W64}
use Rattle.bits64.specs.Words.{bits_of, low, signed, wrapped, quotient_signed, remainder_signed, DivisionOverflows}
use Rattle.bits64.proofs.Readings.{LiesWithin, signed-wrapped, signed-fits, by_half, low-fits}

-- a number that was wrapped to 64 bits wraps to the same narrower number
pub wrapped-casts : (w : Width) (z : ℤ) → unsigned_abs z < 2 ^ 64 → wrapped w (to_z w64 (of_z w64 z)) ≡ wrapped w z
wrapped-casts W8 (pos n) h = grind arith
wrapped-casts W16 (pos n) h = grind arith
wrapped-casts W32 (pos n) h = grind arith
wrapped-casts W64 (pos n) h = grind arith
wrapped-casts W8 (negsuc n) h = grind arith
wrapped-casts W16 (negsuc n) h = grind arith
wrapped-casts W32 (negsuc n) h = grind arith
wrapped-casts W64 (negsuc n) h = grind arith

unsigned_abs-neg : (n : ℕ) → unsigned_abs (neg_ℤ (pos n)) ≡ n
unsigned_abs-neg zero = omega arith
unsigned_abs-neg (suc n) = omega arith

-- a quotient is no larger than the dividend
pub int_div_le : (a b : ℤ) → unsigned_abs (int_div a b) ≤ unsigned_abs a
int_div_le (pos a) (pos b) = div-le_self a b
int_div_le (pos a) (negsuc b) = omega (arith, unsigned_abs-neg (a / suc b), div-le_self a (suc b))
int_div_le (negsuc a) (pos b) = omega (arith, unsigned_abs-neg (suc a / b), div-le_self (suc a) b)
int_div_le (negsuc a) (negsuc b) = div-le_self (suc a) (suc b)

abs_of_fit : (a : ℤ) → FitsSigned w64 a → unsigned_abs a < 2 ^ 64
abs_of_fit (pos n) f = omega (arith, f.sfits)
abs_of_fit (negsuc n) f = omega (arith, f.sfits)

-- of a number that fits 64 bits
pub wrapped-quotient : (w : Width) (a b : ℤ) → FitsSigned w64 a → wrapped w (to_z w64 (of_z w64 (int_div a b))) ≡ wrapped w (int_div a b)
wrapped-quotient w a b f = wrapped-casts w (int_div a b) (omega (arith, int_div_le a b, abs_of_fit a f))

-- ---- the dividend is the divisor times the quotient, and the remainder

neg-within : (h n : ℕ) → 0 < h → n ≤ h → LiesWithin h (neg_ℤ (pos n))
neg-within h zero p q = p
neg-within h (suc n) p q = omega arith

positive : (h : ℕ) (a : ℤ) → LiesWithin h a → 0 < h
positive h (pos n) p = omega arith
positive h (negsuc n) p = omega arith

-- a quotient lies in the dividend's range, unless the least number is divided by -1
quotient-within : (h : ℕ) (a b : ℤ) → LiesWithin h a → ((a ≡ neg_ℤ (pos h)) × (b ≡ neg_ℤ (pos 1)) → ⊥) → LiesWithin h (int_div a b)
quotient-within h (pos a) (pos b) p no_overflow = omega (arith, p, div-le_self a b)
quotient-within h (pos a) (negsuc b) p no_overflow =
    neg-within h (a / suc b) (positive h (pos a) p) (omega (arith, p, div-le_self a (suc b)))
quotient-within h (negsuc a) (pos b) p no_overflow =
    neg-within h (suc a / b) (positive h (negsuc a) p) (omega (arith, p, div-le_self (suc a) b))
quotient-within h (negsuc a) (negsuc zero) p no_overflow =
    elim (eq-or-lt_of_le {n = suc a} {m = h} (omega (arith, p))) [
      | inl e ↦ absurd (no_overflow (ap (λ k. neg_ℤ (pos k)) e, refl))
      | inr l ↦ omega (arith, l)
    ]
quotient-within h (negsuc a) (negsuc (suc b)) p no_overflow =
    div_below (suc a) (suc (suc b)) h (omega arith) (omega (arith, p))

remainder-within : (h : ℕ) (a d : ℤ) → LiesWithin h a → LiesWithin h (int_rem a d)
remainder-within h (pos a) d p = omega (arith, p, mod-le a (unsigned_abs d))
remainder-within h (negsuc a) d p =
    neg-within h (suc a % unsigned_abs d) (positive h (negsuc a) p) (omega (arith, p, mod-le (suc a) (unsigned_abs d)))

signed-zero : (w : Width) (b : ℕ) → low w b ≡ 0 → signed w b ≡ pos 0
signed-zero W8 b e = grind arith
signed-zero W16 b e = grind arith
signed-zero W32 b e = grind arith
signed-zero W64 b e = grind arith

signed-ones : (w : Width) → signed w (2 ^ bits_of w - 1) ≡ negsuc 0
signed-ones W8 = refl
signed-ones W16 = refl
signed-ones W32 = refl
signed-ones W64 = refl

signed-low : (w : Width) (a : ℕ) → signed w (low w a) ≡ signed w a
signed-low w a =
    ap (λ n. if nat_lt n (2 ^ (bits_of w - 1)) then pos n else pos n +ℤ neg_ℤ (pos (2 ^ bits_of w))) (mod-mod a (2 ^ bits_of w))

by_zero : (x : ℤ) → negsuc 0 *ℤ pos 0 +ℤ x ≡ x
by_zero (pos n) = grind arith
by_zero (negsuc n) = grind arith

dividend_of : (w : Width) (a b : ℕ) → (DivisionOverflows w a b → ⊥) → signed w (quotient_signed w a b) *ℤ signed w b +ℤ signed w (remainder_signed w a b) ≡ signed w a
dividend_of w a b no_overflow = go (low w b == 0) refl
  where
    go : (t : Bool) → (low w b == 0) ≡ t → signed w (cond t (2 ^ bits_of w - 1) (wrapped w (int_div (signed w a) (signed w b)))) *ℤ signed w b +ℤ signed w (cond t (low w a) (wrapped w (int_rem (signed w a) (signed w b)))) ≡ signed w a
    go true e =
        let z = signed-zero w b (eqb-true _ _ e) in
        let o = signed-ones w in
        let l = signed-low w a in
        let s = by_zero (signed w a) in
        cc
    go false e =
        let fits = signed-fits w a in
        let q = signed-wrapped w (int_div (signed w a) (signed w b)) (quotient-within (2 ^ (bits_of w - 1)) (signed w a) (signed w b) fits no_overflow) in
        let r = signed-wrapped w (int_rem (signed w a) (signed w b)) (remainder-within (2 ^ (bits_of w - 1)) (signed w a) (signed w b) fits) in
        let s = quot-rem (signed w a) (signed w b) in
        cc

-- the same of a number that is the remainder
pub dividend_is : (w : Width) (a b r : ℕ) → r ≡ remainder_signed w a b → (DivisionOverflows w a b → ⊥) → signed w (quotient_signed w a b) *ℤ signed w b +ℤ signed w r ≡ signed w a
dividend_is w a b r e no_overflow =
    ap (λ k. signed w (quotient_signed w a b) *ℤ signed w b +ℤ signed w k) e ∙ dividend_of w a b no_overflow

-- ---- the least number divided by -1 gives itself

least_wraps : (w : Width) → wrapped w (int_div (neg_ℤ (pos (2 ^ (bits_of w - 1)))) (neg_ℤ (pos 1))) ≡ wrapped w (neg_ℤ (pos (2 ^ (bits_of w - 1))))
least_wraps W8 = refl
least_wraps W16 = refl
least_wraps W32 = refl
least_wraps W64 = refl

low_back : (w : Width) (n : ℕ) → n < 2 ^ bits_of w → wrapped w (negsuc (2 ^ bits_of w - 1 - n)) ≡ n
low_back W8 n f = grind arith
low_back W16 n f = grind arith
low_back W32 n f = grind arith
low_back W64 n f = grind arith

wrapped-signed : (w : Width) (a : ℕ) → wrapped w (signed w a) ≡ low w a
wrapped-signed w a = by_half (λ z. wrapped w z ≡ low w a) w a (λ h. mod-mod a (2 ^ bits_of w)) (λ h. low_back w (low w a) (low-fits w a))

overflow_of : (w : Width) (a b : ℕ) → DivisionOverflows w a b → quotient_signed w a b ≡ low w a
overflow_of w a b (least, minus_one) = go (low w b == 0) refl
  where
    go : (t : Bool) → (low w b == 0) ≡ t → cond t (2 ^ bits_of w - 1) (wrapped w (int_div (signed w a) (signed w b))) ≡ low w a
    go true e = absurd (false≢true (ap (λ z. int_lt z (pos 0)) (sym (signed-zero w b (eqb-true _ _ e)) ∙ minus_one)))
    go false e =
        ap (λ z. wrapped w (int_div z (signed w b))) least
        ∙ ap (λ z. wrapped w (int_div (neg_ℤ (pos (2 ^ (bits_of w - 1)))) z)) minus_one
        ∙ least_wraps w
        ∙ sym (ap (wrapped w) least)
        ∙ wrapped-signed w a

-- the same of a number that is the quotient
pub overflow_is : (w : Width) (a b q : ℕ) → q ≡ quotient_signed w a b → DivisionOverflows w a b → q ≡ low w a
overflow_is w a b q e overflows = e ∙ overflow_of w a b overflows
