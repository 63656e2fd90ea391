-- Numbers of 12 and 32 signed bits.
use Rattle.std.proofs.Common.{◌≡◌, ℤ, pos, negsuc, ◌^◌, ◌&&◌, arith}
use Rattle.std.specs.Prelude.{int_le}
use Rattle.std.proofs.lemmas.Bool.Decides.{nat_tests}
use Rattle.rv_word.specs.Sequence.{fits}

pub within12 : (c : ℤ) → (int_le (negsuc 2047) c && int_le c (pos 2047)) ≡ fits (2 ^ 11) c
within12 (pos n) = grind (arith, nat_tests)
within12 (negsuc n) = grind (arith, nat_tests)

pub within32 : (c : ℤ) → (int_le (negsuc 2147483647) c && int_le c (pos 2147483647)) ≡ fits (2 ^ 31) c
within32 (pos n) = grind (arith, nat_tests)
within32 (negsuc n) = grind (arith, nat_tests)
