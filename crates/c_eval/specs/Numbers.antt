-- What the operators of C do to signed numbers of 64 bits that wrap ("Expressions" of the C
-- standard). Shifts by a count outside of 0 to 63 have no value.
use Rattle.std.specs.Prelude.{ℕ, ℤ, pos, negsuc, nat_lt, Bool, false, not, Option, Some, None, if◌then◌else◌, option_and_then, int_lt}
use Rattle.std.specs.Int.{w64, int_wrapping_add, int_wrapping_sub, int_wrapping_mul, int_wrapping_neg, int_bit_and, int_bit_or, int_bit_xor, int_bit_not, int_shl, int_shr}
use Rattle.std.specs.Ordering.{int_eq}
use Rattle.c_cond.specs.c_words.declared.head.Binary.{Binary}
use Rattle.c_cond.specs.c_words.declared.head.Binary.TheVariants as binary
use Rattle.c_cond.specs.c_words.declared.head.Unary.{Unary}
use Rattle.c_cond.specs.c_words.declared.head.Unary.TheVariants as unary

-- 1 for true and 0 for false
abbrev pub truth : Bool → ℤ
truth holds = if holds then pos 1 else pos 0

abbrev pub is_zero : ℤ → Bool
is_zero a = int_eq a (pos 0)

abbrev pub unary_of : Unary → ℤ → ℤ
unary_of unary.Not a = truth (is_zero a)
unary_of unary.Complement a = int_bit_not w64 a
unary_of unary.Negative a = int_wrapping_neg w64 a

-- a shift, where its count is from 0 to 63
abbrev pub shifted : (ℕ → ℤ) → ℤ → Option ℤ
shifted by (pos count) = if nat_lt count 64 then Some (by count) else None
shifted by (negsuc count) = None

-- an operator on two numbers
abbrev pub binary_of : Binary → ℤ → ℤ → Option ℤ
binary_of binary.Or a b = Some (if is_zero a then truth (not (is_zero b)) else pos 1)
binary_of binary.And a b = Some (if is_zero a then pos 0 else truth (not (is_zero b)))
binary_of binary.BitOr a b = Some (int_bit_or w64 a b)
binary_of binary.BitXor a b = Some (int_bit_xor w64 a b)
binary_of binary.BitAnd a b = Some (int_bit_and w64 a b)
binary_of binary.Equal a b = Some (truth (int_eq a b))
binary_of binary.Unequal a b = Some (truth (not (int_eq a b)))
binary_of binary.Less a b = Some (truth (int_lt a b))
binary_of binary.LessEqual a b = Some (truth (not (int_lt b a)))
binary_of binary.Greater a b = Some (truth (int_lt b a))
binary_of binary.GreaterEqual a b = Some (truth (not (int_lt a b)))
binary_of binary.ShiftLeft a b = shifted (int_shl w64 a) b
binary_of binary.ShiftRight a b = shifted (int_shr a) b
binary_of binary.Plus a b = Some (int_wrapping_add w64 a b)
binary_of binary.Minus a b = Some (int_wrapping_sub w64 a b)
binary_of binary.Times a b = Some (int_wrapping_mul w64 a b)

-- whether the first operand alone says the value: || behind a number other than 0, && behind 0
abbrev pub decides : Binary → ℤ → Bool
decides binary.Or a = not (is_zero a)
decides binary.And a = is_zero a
decides _ a = false

-- An operator on parts that may have no value. A part that C does not evaluate does not count.
abbrev pub joined : Binary → Option ℤ → Option ℤ → Option ℤ
joined op a b = option_and_then (λ x. if decides op x then Some (truth (not (is_zero x))) else option_and_then (binary_of op x) b) a

-- ? : on parts that may have no value
abbrev pub chosen : Option ℤ → Option ℤ → Option ℤ → Option ℤ
chosen test first second = option_and_then (λ x. if is_zero x then second else first) test
