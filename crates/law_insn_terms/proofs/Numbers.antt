-- Numbers of a width: what the operations of expressions give, as the operators of terms give it.
use Rattle.std.proofs.Common.{◌≡◌, ℕ, ◌+◌, ◌-◌, ◌*◌, ◌^◌, ap, arith}
use Rattle.bits64.specs.declared.Width.{Width}
use Rattle.bits64.specs.declared.Width.TheVariants.{W8, W16, W32, W64}
use Rattle.bits64.specs.Words.{bits_of, low, sum_of, difference_of, product_of}

pub negated : (w : Width) (a : ℕ) → difference_of w 0 a ≡ low w (0 + ((2 ^ bits_of w - 1) * a + 0))
negated W8 a = omega arith
negated W16 a = omega arith
negated W32 a = omega arith
negated W64 a = omega arith

pub complemented : (w : Width) (a : ℕ) → 2 ^ bits_of w - 1 - low w a ≡ low w (2 ^ bits_of w - 1 + ((2 ^ bits_of w - 1) * a + 0))
complemented W8 a = omega arith
complemented W16 a = omega arith
complemented W32 a = omega arith
complemented W64 a = omega arith

pub added : (w : Width) (a b : ℕ) → sum_of w a b ≡ low w (0 + (1 * a + (1 * b + 0)))
added w a b = let e : a + b ≡ 0 + (1 * a + (1 * b + 0)) = omega arith in ap (λ n. low w n) e

pub subtracted : (w : Width) (a b : ℕ) → difference_of w a b ≡ low w (0 + (1 * a + ((2 ^ bits_of w - 1) * b + 0)))
subtracted W8 a b = omega arith
subtracted W16 a b = omega arith
subtracted W32 a b = omega arith
subtracted W64 a b = omega arith

pub multiplied : (w : Width) (a b : ℕ) → product_of w a b ≡ low w (a * (b * 1))
multiplied w a b = let e : a * b ≡ a * (b * 1) = omega arith in ap (λ n. low w n) e
