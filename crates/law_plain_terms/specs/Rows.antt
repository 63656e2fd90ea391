-- What a row claims: the low bits of what its lines compute are what its instruction computes. RISC-V
-- unprivileged manual, "RV64I Base Integer Instruction Set"; GCC Internals, "RTL Expressions for
-- Arithmetic".
use Rattle.std.specs.Prelude.{◌≡◌, true, ℕ, suc, List, [], ◌∷◌, Option, Some, None}
use Rattle.bits64.specs.declared.Width.{Width}
use Rattle.bits64.specs.declared.Width.TheVariants.{W8, W32, W64}
use Rattle.bits64.specs.declared.operator.Operator.{Operator}
use Rattle.bits64.specs.declared.operator.Operator.TheVariants.{Add, Not, Shl, Xor}
use Rattle.bits64.specs.declared.operator.Relation.{Relation}
use Rattle.bits64.specs.Operators.{asks_of}
use Rattle.rtx_tree.specs.declared.code.Code.{Code}
use Rattle.rtx_tree.specs.declared.code.Code.TheVariants as code
use Rattle.rtl_step.specs.Value.{operator_of, relation_in}
use Rattle.rv_text.specs.declared.action.Extension.{Extension}
use Rattle.term_tree.specs.Tree.{Tree}
use Rattle.term_tree.specs.Small.{is_small}
use Rattle.term_tree.specs.declared.head.Head.{Head}
use Rattle.term_tree.specs.declared.head.Head.TheVariants as heads
use Rattle.term_mean.specs.Sums.{constant, summed}
use Rattle.term_mean.specs.Normal.{built}
use Rattle.term_mean.specs.Compared.{low_bits}
use Rattle.sym_state.specs.Makers.{one, related, term_of}
use Rattle.sym_state.specs.State.{Need}
use Rattle.sym_state.specs.Registers.{read}
use Rattle.sym_insns.specs.Value.{divisor_needs, conversion_of}
use Rattle.sym_lines.specs.Step.{extended}
use Rattle.sym_lines.specs.Compute.{computed}

-- the low bits of a register but register zero, as they stand before the instruction
abbrev pub part : Width → ℕ → Tree
part w a = read [] (suc a) w

-- all bits of it, as a line reads them
abbrev pub whole : ℕ → Tree
whole a = read [] (suc a) W64

-- what the operator of a code makes of two terms, and of one; and what a divisor needs
abbrev of_operator : Option Operator → Width → Tree → Tree → Tree
of_operator None w a b = constant w 0
of_operator (Some o) w a b = term_of [] o w a b

abbrev pub binary : Code → Width → Tree → Tree → Tree
binary code w a b = of_operator (operator_of code) w a b

abbrev pub unary : Code → Width → Tree → Tree
unary code w a = of_operator (operator_of code) w a (constant w 0)

abbrev needs_by : Option Operator → Tree → List Need
needs_by None b = []
needs_by (Some o) b = divisor_needs (asks_of o) b

abbrev pub operand_needs : Code → Tree → List Need
operand_needs code b = needs_by (operator_of code) b

-- what a conversion makes of a term
abbrev of_conversion : Option Head → Width → Tree → Tree
of_conversion None w a = constant w 0
of_conversion (Some h) w a = one [] h w a

abbrev pub converted : Code → Width → Tree → Tree
converted code w a = of_conversion (conversion_of code) w a

-- a line that computes on v bits of two registers sets the w bits that the code does
abbrev pub OfRegisters : Operator → Width → Code → Width → Type 0
OfRegisters operation v code w = (a b : ℕ) →
    low_bits w (computed operation v (whole a) (whole b)) ≡ binary code w (part w a) (part w b)

-- the same on a register and a constant
abbrev pub WithConstant : Operator → Width → Code → Width → Type 0
WithConstant operation v code w = (a c : ℕ) →
    low_bits w (computed operation v (whole a) (constant W64 c)) ≡ binary code w (part w a) (constant w c)

-- on register zero and a register
abbrev pub FromZero : Operator → Width → Code → Width → Type 0
FromZero operation v code w = (b : ℕ) →
    low_bits w (computed operation v (constant W64 0) (whole b)) ≡ binary code w (constant w 0) (part w b)

-- an operation with one operand, which a line computes from a constant and the register
abbrev pub FromConstant : Operator → ℕ → Width → Code → Width → Type 0
FromConstant operation c v code w = (a : ℕ) →
    low_bits w (computed operation v (constant W64 c) (whole a)) ≡ unary code w (part w a)

-- a shift, whose count is the low 8 bits of a register
abbrev pub Shifts : Operator → Width → Code → Width → Type 0
Shifts operation v code w = (a b : ℕ) →
    low_bits w (computed operation v (whole a) (whole b)) ≡ binary code w (part w a) (part W8 b)

-- and a shift by a constant, of which all bits are read
abbrev pub ShiftsBy : Operator → Width → Code → Width → Type 0
ShiftsBy operation v code w = (a c : ℕ) →
    low_bits w (computed operation v (whole a) (constant W64 c)) ≡ binary code w (part w a) (constant W64 c)

-- `not`
abbrev pub Complements : Width → Type 0
Complements w = (a : ℕ) →
    low_bits w (computed Not W64 (whole a) (constant W64 0)) ≡ unary code.Not w (part w a)

-- the value of 32 bits of an operation on two registers, extended by its sign
abbrev pub Extends : Operator → Code → Type 0
Extends operation c = (a b : ℕ) →
    low_bits W64 (computed operation W32 (whole a) (whole b)) ≡ converted code.SignExtend W64 (binary c W32 (part W32 a) (part W32 b))

-- of a shift by the low 8 bits of a register
abbrev pub ExtendsShift : Operator → Code → Type 0
ExtendsShift operation c = (a b : ℕ) →
    low_bits W64 (computed operation W32 (whole a) (whole b)) ≡ converted code.SignExtend W64 (binary c W32 (part W32 a) (part W8 b))

-- and of one on a register and a constant
abbrev pub ExtendsWith : Operator → Code → Width → Type 0
ExtendsWith operation c count = (a n : ℕ) →
    low_bits W64 (computed operation W32 (whole a) (constant W64 n)) ≡ converted code.SignExtend W64 (binary c W32 (part W32 a) (constant count n))

-- ---- conversions

-- two shifts by a constant, to the left and back
abbrev pub shifted : Operator → ℕ → ℕ → Tree
shifted right c a =
    computed right W64 (computed Shl W64 (whole a) (constant W64 c)) (constant W64 c)

-- they extend the low bits of a register to a width
abbrev pub ShiftsExtend : Operator → ℕ → Code → Width → Width → Type 0
ShiftsExtend right c code from to = (a : ℕ) →
    low_bits to (shifted right c a) ≡ converted code to (part from a)

-- one line extends the low bits of a register to a width, from a constant
abbrev pub ExtendsBy : Operator → Width → ℕ → Code → Width → Width → Type 0
ExtendsBy operation v c code from to = (a : ℕ) →
    low_bits to (computed operation v (whole a) (constant W64 c)) ≡ converted code to (part from a)

-- a copy of a register has the low bits of the register cut to fewer
abbrev pub Truncates : Width → Width → Type 0
Truncates from to = (a : ℕ) →
    low_bits to (computed Add W64 (whole a) (constant W64 0)) ≡ converted code.Truncate to (part from a)

-- ---- comparisons of operands of 64 bits, whose truth is set in a width

-- what a line computes of two terms
abbrev pub line : Operator → Tree → Tree → Tree
line operation x y = computed operation W64 x y

-- a truth and its opposite: the exclusive or with 1
abbrev pub reversed : Tree → Tree
reversed t = computed Xor W64 t (constant W64 1)

-- what the instruction sets
abbrev of_relation : Option Relation → Width → Tree → Tree → Tree
of_relation None w x y = constant w 0
of_relation (Some r) w x y = related [] r W64 w x y

abbrev pub truth : Code → Width → Tree → Tree → Tree
truth code w x y = of_relation (relation_in (operator_of code)) w x y

-- a line sets the truth of a comparison of two terms
abbrev pub Compares : Operator → Code → Width → Tree → Tree → Type 0
Compares operation code w x y = low_bits w (line operation x y) ≡ truth code w x y

-- two lines set the truth of a comparison of two terms the other way round
abbrev pub Reverses : Operator → Code → Width → Tree → Tree → Type 0
Reverses operation code w x y = low_bits w (reversed (line operation x y)) ≡ truth code w x y

-- ---- memory and moves

-- the address of a register and an offset, as a line and as an instruction have it: both are one
abbrev pub line_address : ℕ → ℕ → Tree
line_address a c = summed W64 c ((1, whole a) ∷ [])

abbrev pub insn_address : ℕ → ℕ → Tree
insn_address a c = binary code.Plus W64 (whole a) (constant W64 c)

abbrev pub loaded_at : Width → Tree → Tree
loaded_at w at = built [] heads.Load w 0 [] (at ∷ [])

-- what a line loads: w bits, extended to 64
abbrev pub loads : Extension → Width → Tree → Tree
loads e w at = extended e w (loaded_at w at)

-- a copy of a register has its low bits
abbrev pub Copies : Width → Type 0
Copies w = (a : ℕ) → low_bits w (computed Add W64 (whole a) (constant W64 0)) ≡ part w a

-- the low bits of a constant that a line loads are the constant
abbrev pub Loads : Width → Type 0
Loads w = (c : ℕ) → low_bits w (computed Add W64 (constant W64 c) (constant W64 0)) ≡ constant w c

-- ---- the limit on terms

abbrev pub IsSmall : Tree → Type 0
IsSmall t = is_small t ≡ true

-- a term of 32 bits, and its extension by the sign to 64
abbrev pub AreSmall : Tree → Type 0
AreSmall t = IsSmall t × IsSmall (one [] heads.Sext W64 t)

-- a truth of 8 bits in 64, and in 32
abbrev pub AreTruths : Tree → Type 0
AreTruths t = IsSmall (one [] heads.Zext W64 t) × IsSmall (one [] heads.Zext W32 t)
