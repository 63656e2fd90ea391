-- Numbers of 8, 16, 32 and 64 bits, as the instructions of RV64IM compute them. The comments name
-- chapters and sections of "The RISC-V Instruction Set Manual, Volume I: Unprivileged ISA". The
-- manual speaks of XLEN bits, and of 32 bits at the instructions of RV64I that end in W. Here w
-- stands for either; 8 and 16 bits, which have no instructions of their own, are read in the same
-- words. Of an operand only the low bits_of w bits count: it may be any number. Each result but
-- sign_extended's is below 2 ^ bits_of w.
use Rattle.std.specs.Prelude.{◌≡◌, ℕ, ◌+◌, ◌-◌, ◌*◌, ◌/◌, ◌%◌, ◌^◌, ◌==◌, nat_lt, ℤ, pos, negsuc, neg_ℤ, ◌-ℤ◌, ◌*ℤ◌, if◌then◌else◌, Bool, int_div, int_rem, int_lt}
use Rattle.std.specs.Int.{int_shr}
use Rattle.bits64.specs.declared.Width.{Width}
use Rattle.bits64.specs.declared.Width.TheVariants.{W8, W16, W32, W64}

-- ---- widths, and the two readings of a word

-- how many bits a width has
abbrev pub bits_of : Width → ℕ
bits_of W8 = 8
bits_of W16 = 16
bits_of W32 = 32
bits_of W64 = 64

-- how many bytes it takes in memory ("RV32I Base Integer Instruction Set", "Load and Store
-- Instructions")
abbrev pub bytes_of : Width → ℕ
bytes_of W8 = 1
bytes_of W16 = 2
bytes_of W32 = 4
bytes_of W64 = 8

-- the low bits of a number, which is its value modulo 2 ^ w: the unsigned reading
abbrev pub low : Width → ℕ → ℕ
low w a = a % 2 ^ bits_of w

-- the low bits read as two's complement: where the highest of them is set, less 2 ^ w ("RV32I Base
-- Integer Instruction Set", "Programmers' Model for Base Integer ISA": registers hold two's
-- complement or unsigned integers)
abbrev pub signed : Width → ℕ → ℤ
signed w a = if nat_lt (low w a) (2 ^ (bits_of w - 1)) then pos (low w a) else pos (low w a) -ℤ pos (2 ^ bits_of w)

-- z modulo 2 ^ w: the word of which z is a reading, or a reading plus a multiple of 2 ^ w
abbrev pub wrapped : Width → ℤ → ℕ
wrapped w (pos n) = n % 2 ^ bits_of w
wrapped w (negsuc n) = 2 ^ bits_of w - 1 - n % 2 ^ bits_of w

-- ---- extension to 64 bits ("RV32I Base Integer Instruction Set", "Load and Store Instructions": LB and LH sign-extend, LBU and LHU
-- zero-extend; "RV64I Base Integer Instruction Set", "Load and Store Instructions": LW and LWU)

-- the 64 bits with the same signed reading
abbrev pub sign_extended : Width → ℕ → ℕ
sign_extended w a = wrapped W64 (signed w a)

-- the 64 bits with the same unsigned reading
abbrev pub zero_extended : Width → ℕ → ℕ
zero_extended w a = low w a

-- ---- sums ("RV32I Base Integer Instruction Set", "Integer Register-Register Operations": overflows are ignored and the low XLEN bits of
-- results are written; "RV64I Base Integer Instruction Set", "Integer Register-Register
-- Operations": ADDW and SUBW)

abbrev pub sum_of : Width → ℕ → ℕ → ℕ
sum_of w a b = (a + b) % 2 ^ bits_of w

-- a plus the two's complement of b
abbrev pub difference_of : Width → ℕ → ℕ → ℕ
difference_of w a b = (a + (2 ^ bits_of w - low w b)) % 2 ^ bits_of w

-- ---- products ("'M' Standard Extension for Integer Multiplication and Division", "Multiplication Operations")

-- MUL: the lower XLEN bits of the product
abbrev pub product_of : Width → ℕ → ℕ → ℕ
product_of w a b = (a * b) % 2 ^ bits_of w

-- MULH, MULHU, MULHSU: the upper XLEN bits of the full 2 * XLEN-bit product, for signed * signed,
-- unsigned * unsigned and signed * unsigned
abbrev pub high_signed : Width → ℕ → ℕ → ℕ
high_signed w a b = wrapped w (int_shr (signed w a *ℤ signed w b) (bits_of w))

abbrev pub high_unsigned : Width → ℕ → ℕ → ℕ
high_unsigned w a b = low w a * low w b / 2 ^ bits_of w

abbrev pub high_mixed : Width → ℕ → ℕ → ℕ
high_mixed w a b = wrapped w (int_shr (signed w a *ℤ pos (low w b)) (bits_of w))

-- ---- quotients and remainders ("'M' Standard Extension for Integer Multiplication and Division", "Division Operations", with its table of the
-- semantics for division by zero and division overflow)

-- DIVU: all bits set where the divisor is zero
abbrev pub quotient_unsigned : Width → ℕ → ℕ → ℕ
quotient_unsigned w a b = if low w b == 0 then 2 ^ bits_of w - 1 else low w a / low w b

-- REMU: the dividend where the divisor is zero
abbrev pub remainder_unsigned : Width → ℕ → ℕ → ℕ
remainder_unsigned w a b = if low w b == 0 then low w a else low w a % low w b

-- "Signed division overflow occurs only when the most-negative integer is divided by -1"
abbrev pub DivisionOverflows : Width → ℕ → ℕ → Type 0
DivisionOverflows w a b =
    (signed w a ≡ neg_ℤ (pos (2 ^ (bits_of w - 1)))) × (signed w b ≡ neg_ℤ (pos 1))

-- DIV: rounded towards zero; all bits set, which is -1, where the divisor is zero. The least number
-- divided by -1 is 2 ^ (w - 1), which wraps to the dividend: the overflow needs no case of its own
abbrev pub quotient_signed : Width → ℕ → ℕ → ℕ
quotient_signed w a b =
    if low w b == 0 then 2 ^ bits_of w - 1 else wrapped w (int_div (signed w a) (signed w b))

-- REM: with the dividend's sign; the dividend where the divisor is zero. The least number divided
-- by -1 leaves 0
abbrev pub remainder_signed : Width → ℕ → ℕ → ℕ
remainder_signed w a b =
    if low w b == 0 then low w a else wrapped w (int_rem (signed w a) (signed w b))

-- ---- shifts ("RV32I Base Integer Instruction Set", "Integer Register-Register Operations": by the lower 5 bits of rs2, which is rs2 modulo
-- 32; "RV64I Base Integer Instruction Set", "Integer Register-Register Operations": by the low 6
-- bits, and 5 for SLLW, SRLW and SRAW). At 8 and 16 bits the count is likewise taken modulo the
-- width

-- SLL: zeros are shifted into the low bits
abbrev pub shifted_left : Width → ℕ → ℕ → ℕ
shifted_left w a b = (a * 2 ^ (b % bits_of w)) % 2 ^ bits_of w

-- SRL: zeros are shifted into the high bits
abbrev pub shifted_right : Width → ℕ → ℕ → ℕ
shifted_right w a b = low w a / 2 ^ (b % bits_of w)

-- SRA: the sign bit is copied into the high bits, so the signed reading is divided and rounded down
abbrev pub shifted_arithmetic : Width → ℕ → ℕ → ℕ
shifted_arithmetic w a b = wrapped w (int_shr (signed w a) (b % bits_of w))

-- ---- comparisons ("RV32I Base Integer Instruction Set", "Integer Register-Register Operations": SLT and SLTU; "Conditional Branches": BLT
-- and BLTU). The manual compares XLEN bits only; at a narrower width the two low parts are compared

abbrev pub less_signed : Width → ℕ → ℕ → Bool
less_signed w a b = int_lt (signed w a) (signed w b)

abbrev pub less_unsigned : Width → ℕ → ℕ → Bool
less_unsigned w a b = nat_lt (low w a) (low w b)
