-- Operators on numbers of a width: what each takes, where it has no value, and its number. The
-- comments name chapters and sections of "The RISC-V Instruction Set Manual, Volume I: Unprivileged
-- ISA".
use Rattle.std.specs.Prelude.{◌≡◌, ℕ, ◌-◌, ◌^◌, ◌==◌, Bool, false, not, if◌then◌else◌, List, [], ◌∷◌, Some, slice_get, bit_and, bit_or, bit_xor, codes}
use Rattle.bits64.specs.declared.Width.{Width}
use Rattle.bits64.specs.declared.operator.Relation.{Relation}
use Rattle.bits64.specs.declared.operator.Relation.TheVariants.{Eq, Ne, Lt, Gt, Le, Ge, Ltu, Gtu, Leu, Geu}
use Rattle.bits64.specs.declared.operator.Opaque.{Opaque}
use Rattle.bits64.specs.declared.operator.Opaque.TheVariants.{Mulh, Mulhu, Mulhsu, Div, Udiv, Rem, Urem}
use Rattle.bits64.specs.declared.operator.Operator.{Operator}
use Rattle.bits64.specs.declared.operator.Operator.TheVariants as op
use Rattle.bits64.specs.declared.operator.Taking.{Taking}
use Rattle.bits64.specs.declared.operator.Taking.TheVariants.{Alone, Pair, Counted}
use Rattle.bits64.specs.declared.operator.Asks.{Asks}
use Rattle.bits64.specs.declared.operator.Asks.TheVariants.{Nothing, SecondNonzero}
use Rattle.bits64.specs.Words.{bits_of, low, sum_of, difference_of, product_of, high_signed, high_unsigned, high_mixed, quotient_signed, quotient_unsigned, remainder_signed, remainder_unsigned, shifted_left, shifted_right, shifted_arithmetic, less_signed, less_unsigned}

-- ---- comparisons ("RV32I Base Integer Instruction Set", "Conditional Branches"; "Integer
-- Register-Register Operations": SLT and SLTU)

abbrev pub holds : Relation → Width → ℕ → ℕ → Bool
holds Eq w a b = low w a == low w b
holds Ne w a b = not (low w a == low w b)
holds Lt w a b = less_signed w a b
holds Gt w a b = less_signed w b a
holds Le w a b = not (less_signed w b a)
holds Ge w a b = not (less_signed w a b)
holds Ltu w a b = less_unsigned w a b
holds Gtu w a b = less_unsigned w b a
holds Leu w a b = not (less_unsigned w b a)
holds Geu w a b = not (less_unsigned w a b)

abbrev pub truth : Bool → ℕ
truth b = if b then 1 else 0

-- ---- operators of which nothing is known but their numbers

pub record Row : Type 0 where
  pub name : List ℕ
  pub taking : Taking
  pub asks : Asks

abbrev row : List ℕ → Taking → Asks → Row
row name taking asks = record { name = name; taking = taking; asks = asks }

-- the name of each in texts, what it takes, and what it asks to have a value in an expression
abbrev pub opaque_row : Opaque → Row
-- "Multiplication Operations"
opaque_row Mulh = row (codes "mulh") Pair Nothing
opaque_row Mulhu = row (codes "mulhu") Pair Nothing
opaque_row Mulhsu = row (codes "mulhsu") Pair Nothing
-- "Division Operations"
opaque_row Div = row (codes "div") Pair SecondNonzero
opaque_row Udiv = row (codes "udiv") Pair SecondNonzero
opaque_row Rem = row (codes "rem") Pair SecondNonzero
opaque_row Urem = row (codes "urem") Pair SecondNonzero

-- an operator of one number counts the second for nothing
abbrev pub opaque_number : Opaque → Width → ℕ → ℕ → ℕ
opaque_number Mulh w a b = high_signed w a b
opaque_number Mulhu w a b = high_unsigned w a b
opaque_number Mulhsu w a b = high_mixed w a b
opaque_number Div w a b = quotient_signed w a b
opaque_number Udiv w a b = quotient_unsigned w a b
opaque_number Rem w a b = remainder_signed w a b
opaque_number Urem w a b = remainder_unsigned w a b

-- every one, once
abbrev pub all_opaque : List Opaque
all_opaque = Mulh ∷ Mulhu ∷ Mulhsu ∷ Div ∷ Udiv ∷ Rem ∷ Urem ∷ []

-- the place of each among them
abbrev pub opaque_index : Opaque → ℕ
opaque_index Mulh = 0
opaque_index Mulhu = 1
opaque_index Mulhsu = 2
opaque_index Div = 3
opaque_index Udiv = 4
opaque_index Rem = 5
opaque_index Urem = 6

-- each stands at its place
abbrev pub HasEvery : Type 0
HasEvery = (o : Opaque) → slice_get all_opaque (opaque_index o) ≡ Some o

abbrev pub opaque_name : Opaque → List ℕ
opaque_name o = (opaque_row o).name

abbrev pub opaque_taking : Opaque → Taking
opaque_taking o = (opaque_row o).taking

abbrev pub opaque_asks : Opaque → Asks
opaque_asks o = (opaque_row o).asks

-- ---- all operators

abbrev pub taking_of : Operator → Taking
taking_of op.Neg = Alone
taking_of op.Not = Alone
taking_of op.Shl = Counted
taking_of op.Shr = Counted
taking_of op.Sar = Counted
taking_of (op.Opaque o) = opaque_taking o
taking_of _ = Pair

abbrev pub asks_of : Operator → Asks
asks_of (op.Opaque o) = opaque_asks o
asks_of _ = Nothing

-- the number of each, which has no more bits than the width. Of the numbers that it takes only the
-- low bits count
abbrev pub number : Operator → Width → ℕ → ℕ → ℕ
-- "Integer Register-Register Operations"
number op.Add w a b = sum_of w a b
number op.Sub w a b = difference_of w a b
number op.Neg w a b = difference_of w 0 a
number op.Not w a b = 2 ^ bits_of w - 1 - low w a
number op.Mul w a b = product_of w a b
number op.And w a b = low w (bit_and a b)
number op.Ior w a b = low w (bit_or a b)
number op.Xor w a b = low w (bit_xor a b)
number op.Shl w a b = shifted_left w a b
number op.Shr w a b = shifted_right w a b
number op.Sar w a b = shifted_arithmetic w a b
number (op.Test r) w a b = truth (holds r w a b)
number (op.Opaque o) w a b = opaque_number o w a b

-- whether a second number lacks what is asked
abbrev pub lacks : Asks → Width → ℕ → Bool
lacks Nothing w b = false
lacks SecondNonzero w b = low w b == 0
