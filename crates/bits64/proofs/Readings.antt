-- The signed reading of a word, and the word of a signed number.
use Rattle.std.proofs.Common.{◌≡◌, ◌<◌, ◌≤◌, ◌+◌, ◌-◌, ◌*◌, ◌^◌, ◌%◌, ℕ, zero, suc, ℤ, pos, negsuc, neg_ℤ, unsigned_abs, arith, Bool, true, false, nat_lt, refl, sym, subst}
use borrow.Author.Tests.{ltb-true, ltb-false}
use Rattle.bits64.specs.declared.Width.{Width}
use Rattle.bits64.specs.declared.Width.TheVariants.{W8, W16, W32, W64}
use Rattle.bits64.specs.Words.{bits_of, low, signed, wrapped}

-- z lies from -h to h - 1
abbrev pub LiesWithin : ℕ → ℤ → Type 0
LiesWithin h (pos n) = n < h
LiesWithin h (negsuc n) = n < h

-- a number in a word's range is the signed reading of the word that it wraps to
pub signed-wrapped : (w : Width) (z : ℤ) → LiesWithin (2 ^ (bits_of w - 1)) z → signed w (wrapped w z) ≡ z
signed-wrapped W8 (pos n) h = grind arith
signed-wrapped W16 (pos n) h = grind arith
signed-wrapped W32 (pos n) h = grind arith
signed-wrapped W64 (pos n) h = grind arith
signed-wrapped W8 (negsuc n) h = grind arith
signed-wrapped W16 (negsuc n) h = grind arith
signed-wrapped W32 (negsuc n) h = grind arith
signed-wrapped W64 (negsuc n) h = grind arith

pub signed-low_half : (w : Width) (a : ℕ) → low w a < 2 ^ (bits_of w - 1) → signed w a ≡ pos (low w a)
signed-low_half W8 a h = grind arith
signed-low_half W16 a h = grind arith
signed-low_half W32 a h = grind arith
signed-low_half W64 a h = grind arith

pub signed-high_half : (w : Width) (a : ℕ) → 2 ^ (bits_of w - 1) ≤ low w a → signed w a ≡ negsuc (2 ^ bits_of w - 1 - low w a)
signed-high_half W8 a h = grind arith
signed-high_half W16 a h = grind arith
signed-high_half W32 a h = grind arith
signed-high_half W64 a h = grind arith

-- the numbers whose sum is a multiple of 2 ^ w are each other's negatives
pub wrapped-neg : (w : Width) (m n q : ℕ) → m + n ≡ q * 2 ^ bits_of w → wrapped w (neg_ℤ (pos m)) ≡ n % 2 ^ bits_of w
wrapped-neg W8 zero n q e = omega arith
wrapped-neg W16 zero n q e = omega arith
wrapped-neg W32 zero n q e = omega arith
wrapped-neg W64 zero n q e = omega arith
wrapped-neg W8 (suc m) n q e = omega arith
wrapped-neg W16 (suc m) n q e = omega arith
wrapped-neg W32 (suc m) n q e = omega arith
wrapped-neg W64 (suc m) n q e = omega arith

pub low-same : (w : Width) (m n p q : ℕ) → m + p * 2 ^ bits_of w ≡ n + q * 2 ^ bits_of w → low w m ≡ low w n
low-same W8 m n p q e = omega arith
low-same W16 m n p q e = omega arith
low-same W32 m n p q e = omega arith
low-same W64 m n p q e = omega arith

pub low-fits : (w : Width) (a : ℕ) → low w a < 2 ^ bits_of w
low-fits W8 a = omega arith
low-fits W16 a = omega arith
low-fits W32 a = omega arith
low-fits W64 a = omega arith

-- what holds of both halves holds of a signed reading
pub by_half : (P : ℤ → Type 0) (w : Width) (a : ℕ) → (low w a < 2 ^ (bits_of w - 1) → P (pos (low w a))) → (2 ^ (bits_of w - 1) ≤ low w a → P (negsuc (2 ^ bits_of w - 1 - low w a))) → P (signed w a)
by_half P w a below above = go (nat_lt (low w a) (2 ^ (bits_of w - 1))) refl
  where
    go : (t : Bool) → nat_lt (low w a) (2 ^ (bits_of w - 1)) ≡ t → P (signed w a)
    go true e = let h : low w a < 2 ^ (bits_of w - 1) = ltb-true _ _ e in subst P (sym (signed-low_half w a h)) (below h)
    go false e = let h : 2 ^ (bits_of w - 1) ≤ low w a = ltb-false _ _ e in subst P (sym (signed-high_half w a h)) (above h)

-- twice a half is the whole
pub whole-half : (w : Width) → 2 ^ bits_of w ≡ 2 * 2 ^ (bits_of w - 1)
whole-half W8 = refl
whole-half W16 = refl
whole-half W32 = refl
whole-half W64 = refl

-- a signed reading lies in the word's range
pub signed-fits : (w : Width) (a : ℕ) → LiesWithin (2 ^ (bits_of w - 1)) (signed w a)
signed-fits w a =
    by_half (LiesWithin (2 ^ (bits_of w - 1))) w a (λ h. h) (λ h. omega (arith, h, whole-half w, low-fits w a))

-- and is at most half of 2 ^ w from zero
pub unsigned_abs-signed : (w : Width) (a : ℕ) → unsigned_abs (signed w a) ≤ 2 ^ (bits_of w - 1)
unsigned_abs-signed w a =
    by_half (λ z. unsigned_abs z ≤ 2 ^ (bits_of w - 1)) w a (λ h. omega (arith, h)) (λ h. omega (arith, h, whole-half w, low-fits w a))
