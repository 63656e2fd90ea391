-- Sums of sp and numbers.
use Rattle.std.proofs.Common.{◌≡◌, ℕ, zero, suc, ◌+◌, ◌-◌, ◌<◌, ◌≤◌, ◌^◌, arith}
use Rattle.std.specs.Prelude.{pos, neg_ℤ}
use Rattle.std.specs.Int.{cast_unsigned, w64}
use Rattle.bits64.specs.Words.{low, sum_of}
use Rattle.bits64.specs.declared.Width.TheVariants.{W64}

-- sp is lowered
pub lowers : (sp size : ℕ) → 0 < size → size ≤ sp → sp < 2 ^ 64 → sum_of W64 sp (low W64 (cast_unsigned w64 (neg_ℤ (pos size)))) ≡ sp - size
lowers sp zero some enough small = absurd (omega (arith, some))
lowers sp (suc n) some enough small = omega (arith, some, enough, small)

-- sp is raised
pub raises : (sp size : ℕ) → size ≤ sp → sp < 2 ^ 64 → sum_of W64 (sp - size) (low W64 (cast_unsigned w64 (pos size))) ≡ sp
raises sp size enough small = omega (arith, enough, small)

-- a sum that is not too large
pub sum_is : (a b : ℕ) → a + b < 2 ^ 64 → sum_of W64 a (low W64 b) ≡ a + b
sum_is a b small = omega (arith, small)

pub sum_turned : (a b : ℕ) → a + b < 2 ^ 64 → sum_of W64 (low W64 (low W64 b)) a ≡ a + b
sum_turned a b small = omega (arith, small)

pub low_twice : (a b : ℕ) → sum_of W64 a (low W64 (low W64 b)) ≡ sum_of W64 a (low W64 b)
low_twice a b = omega arith
