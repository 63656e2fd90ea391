-- Laws on numbers behind the rules on shifts, comparisons and loads.
use Rattle.std.proofs.Common.{◌≡◌, ℕ, ◌+◌, ◌-◌, ◌*◌, ◌/◌, ◌%◌, ◌^◌, ◌<◌, ◌≤◌, ◌∙◌, ap, arith, tests, eqb}
use Rattle.std.proofs.Math.Nat.{mul-div_right}
use Rattle.std.proofs.lemmas.Nat.{field_of, pow_pos}
use Rattle.bits64.specs.declared.Width.{Width}
use Rattle.bits64.specs.declared.Width.TheVariants.{W8, W16, W32, W64}
use Rattle.bits64.specs.Words.{bits_of, low, signed, sign_extended, less_unsigned}

-- a shift right of a multiple
pub shift-multiple : (j k q : ℕ) → (2 ^ k * q) % 2 ^ (j + k) / 2 ^ k ≡ q % 2 ^ j
shift-multiple j k q = field_of (2 ^ k * q) j k ∙ ap (λ n. n % 2 ^ j) (mul-div_right q (pow_pos k))

-- a difference is 0 where the numbers are equal
pub difference-zero : (w : Width) (a b : ℕ) → eqb (low w (a + (2 ^ bits_of w - 1) * b)) 0 ≡ eqb (low w a) (low w b)
difference-zero W8 a b = grind (arith, tests)
difference-zero W16 a b = grind (arith, tests)
difference-zero W32 a b = grind (arith, tests)
difference-zero W64 a b = grind (arith, tests)

-- the negative of a number is 0 where it is
pub negative-zero : (w : Width) (a : ℕ) → eqb (low w ((2 ^ bits_of w - 1) * a)) 0 ≡ eqb (low w a) 0
negative-zero W8 a = grind (arith, tests)
negative-zero W16 a = grind (arith, tests)
negative-zero W32 a = grind (arith, tests)
negative-zero W64 a = grind (arith, tests)

-- a comparison of extensions
pub signed-sign_extended : (v w : Width) (a : ℕ) → bits_of v ≤ bits_of w → signed w (low w (sign_extended v a)) ≡ signed v a
signed-sign_extended W8 W8 a h = grind arith
signed-sign_extended W8 W16 a h = grind arith
signed-sign_extended W8 W32 a h = grind arith
signed-sign_extended W8 W64 a h = grind arith
signed-sign_extended W16 W8 a h = absurd (omega arith)
signed-sign_extended W16 W16 a h = grind arith
signed-sign_extended W16 W32 a h = grind arith
signed-sign_extended W16 W64 a h = grind arith
signed-sign_extended W32 W8 a h = absurd (omega arith)
signed-sign_extended W32 W16 a h = absurd (omega arith)
signed-sign_extended W32 W32 a h = grind arith
signed-sign_extended W32 W64 a h = grind arith
signed-sign_extended W64 W8 a h = absurd (omega arith)
signed-sign_extended W64 W16 a h = absurd (omega arith)
signed-sign_extended W64 W32 a h = absurd (omega arith)
signed-sign_extended W64 W64 a h = grind arith

-- below 1 is 0
pub below-one : (w : Width) (a : ℕ) → less_unsigned w a 1 ≡ eqb (low w a) 0
below-one W8 a = grind (arith, tests)
below-one W16 a = grind (arith, tests)
below-one W32 a = grind (arith, tests)
below-one W64 a = grind (arith, tests)

-- bytes of two places that lie apart
pub apart : (a b d p q i j : ℕ) → a < 2 ^ 64 → b < 2 ^ 64 → d < 2 ^ 64 → a ≡ (b + d) % 2 ^ 64 → q ≤ d → p + d ≤ 2 ^ 64 → i < p → j < q → (a + i) % 2 ^ 64 ≡ (b + j) % 2 ^ 64 → ⊥
apart a b d p q i j ha hb hd e hq hp hi hj f = omega arith
