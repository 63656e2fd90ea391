-- Numbers in 64 signed bits that wrap.
use Rattle.std.proofs.Common.{◌≡◌, ℕ, ◌<◌, ◌^◌, sym, ap, subst, ◌∙◌, arith}
use Rattle.std.specs.Prelude.{ℤ, pos, negsuc, ◌+ℤ◌, FitsSigned}
use Rattle.std.specs.Int.{w64, cast_signed, cast_unsigned, int_wrap, int_wrapping_add}
use Rattle.std.proofs.Math.Nat.{mod-eq_of_lt}
use Rattle.std.proofs.lemmas.Int.{ints, to_z-of_z, wrapping_add_is, int_wrap-add_same, int_wrap_fits, SFits-int_wrap}

pub number_wraps : (n : ℕ) → n < 2 ^ 64 → cast_signed w64 n ≡ int_wrap w64 (pos n)
unfolding int_wrap
number_wraps n l = ap (cast_signed w64) (sym (mod-eq_of_lt l))

number_fits : (n : ℕ) → n < 2 ^ 64 → FitsSigned w64 (cast_signed w64 n)
number_fits n l = subst (FitsSigned w64) (sym (number_wraps n l)) (SFits-int_wrap w64 (pos n))

pub sum_wraps : (n : ℕ) (c : ℤ) → n < 2 ^ 64 → FitsSigned w64 c → int_wrapping_add w64 (cast_signed w64 n) c ≡ int_wrap w64 (pos n +ℤ c)
sum_wraps n c l f =
    let fits = number_fits n l in
    wrapping_add_is w64 (cast_signed w64 n) c fits f ∙ int_wrap-add_same w64 (cast_signed w64 n) (pos n) c (int_wrap_fits w64 (cast_signed w64 n) fits ∙ number_wraps n l)

bits_small : (c : ℤ) → FitsSigned w64 c → cast_unsigned w64 c < 2 ^ 64
bits_small (pos k) f = omega (arith, ints, f)
bits_small (negsuc k) f = omega (arith, ints, f)

-- a number of 64 signed bits is what its bits are
pub bits_stay : (c : ℤ) → FitsSigned w64 c → c ≡ int_wrap w64 (pos (cast_unsigned w64 c))
bits_stay c f = sym (to_z-of_z w64 c f) ∙ number_wraps (cast_unsigned w64 c) (bits_small c f)
