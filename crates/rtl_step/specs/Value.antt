-- The value of an expression: GCC Internals, chapter "RTL Representation", whose sections the
-- comments name.
use Rattle.std.specs.Prelude.{ℕ, ℤ, if◌then◌else◌, List, [], ◌∷◌, Option, Some, None, option_map, option_and_then}
use Rattle.std.specs.Int.{cast_unsigned, w64}
use Rattle.bits64.specs.declared.Width.{Width}
use Rattle.bits64.specs.declared.Width.TheVariants.{W8, W16, W32, W64}
use Rattle.bits64.specs.declared.operator.Operator.{Operator}
use Rattle.bits64.specs.declared.operator.Operator.TheVariants as op
use Rattle.bits64.specs.declared.operator.Opaque.TheVariants as opaque
use Rattle.bits64.specs.declared.operator.Relation.{Relation}
use Rattle.bits64.specs.declared.operator.Relation.TheVariants as relation
use Rattle.bits64.specs.declared.operator.Taking.{Taking}
use Rattle.bits64.specs.declared.operator.Taking.TheVariants.{Alone, Counted}
use Rattle.bits64.specs.declared.operator.Asks.{Asks}
use Rattle.bits64.specs.declared.operator.Asks.TheVariants.{Nothing}
use Rattle.bits64.specs.Operators.{number, holds, truth, lacks, taking_of, asks_of}
use Rattle.bits64.specs.Words.{low, sign_extended, zero_extended}
use Rattle.rtx_tree.specs.declared.code.Code.{Code}
use Rattle.rtx_tree.specs.declared.code.Code.TheVariants.{Plus, Minus, Mult, Div, Udiv, Mod, Umod, And, Ior, Xor, Neg, Not, Ashift, Ashiftrt, Lshiftrt, SignExtend, ZeroExtend, Truncate, Eq, Ne, Lt, Le, Gt, Ge, Ltu, Leu, Gtu, Geu}
use Rattle.rtx_tree.specs.declared.code.Mode.{Mode}
use Rattle.rtx_tree.specs.declared.code.Mode.TheVariants.{Void, QI, HI, SI, DI}
use Rattle.rtx_tree.specs.declared.memories.MemByte.{MemByte}
use Rattle.rtx_tree.specs.declared.machine.SymbolAt.{SymbolAt}
use Rattle.rtx_tree.specs.declared.tree.Rtx.{Rtx}
use Rattle.rtx_tree.specs.declared.tree.Rtx.TheOpen.{Rtx-F}
use Rattle.rtx_tree.specs.declared.tree.Rtx.TheFolds.{fold-Rtx}
use Rattle.run_memory.specs.Symbols.{symbol_address}
use Rattle.run_memory.specs.RunMemory.{load}
use Rattle.rtl_step.specs.Regs.{Regs, reg_value}
use Rattle.rtx_tree.specs.declared.class.Class.{Class}
use Rattle.rtx_tree.specs.declared.class.Class.TheVariants.{Register, Constant, Symbol, Memory, Lowpart, Unary, Binary, Shift, Extension, Truncation, Comparison}
use Rattle.rtx_tree.specs.Code.{class_of_code}

-- the width of a mode ("Machine Modes"); no mode has none
abbrev pub width_of : Mode → Option Width
width_of Void = None
width_of QI = Some W8
width_of HI = Some W16
width_of SI = Some W32
width_of DI = Some W64

-- ---- operations on numbers of a width

-- the operator of a code, if it has one
abbrev pub operator_of : Code → Option Operator
-- "RTL Expressions for Arithmetic": sums, differences, products and negatives wrap; `mod` has the
-- dividend's sign
operator_of Plus = Some op.Add
operator_of Minus = Some op.Sub
operator_of Mult = Some op.Mul
operator_of Div = Some (op.Opaque opaque.Div)
operator_of Udiv = Some (op.Opaque opaque.Udiv)
operator_of Mod = Some (op.Opaque opaque.Rem)
operator_of Umod = Some (op.Opaque opaque.Urem)
operator_of And = Some op.And
operator_of Ior = Some op.Ior
operator_of Xor = Some op.Xor
operator_of Neg = Some op.Neg
operator_of Not = Some op.Not
-- `ashift` and its like: the count is taken modulo the width
operator_of Ashift = Some op.Shl
operator_of Lshiftrt = Some op.Shr
operator_of Ashiftrt = Some op.Sar
-- "Comparison Operations": 1 for true and 0 for false; `ltu` and its like are unsigned
operator_of Eq = Some (op.Test relation.Eq)
operator_of Ne = Some (op.Test relation.Ne)
operator_of Lt = Some (op.Test relation.Lt)
operator_of Le = Some (op.Test relation.Le)
operator_of Gt = Some (op.Test relation.Gt)
operator_of Ge = Some (op.Test relation.Ge)
operator_of Ltu = Some (op.Test relation.Ltu)
operator_of Leu = Some (op.Test relation.Leu)
operator_of Gtu = Some (op.Test relation.Gtu)
operator_of Geu = Some (op.Test relation.Geu)
operator_of _ = None

-- what takes such numbers and asks nothing
abbrev pub asking_nothing : Asks → Operator → Option Operator
asking_nothing Nothing o = Some o
asking_nothing _ o = None

abbrev pub if_alone : Taking → Operator → Option Operator
if_alone Alone o = asking_nothing (asks_of o) o
if_alone _ o = None

abbrev pub if_counted : Taking → Operator → Option Operator
if_counted Counted o = asking_nothing (asks_of o) o
if_counted _ o = None

-- an operator of one number, one with a count, and the relation of a comparison
abbrev pub alone : Option Operator → Option Operator
alone o = option_and_then (λ o. if_alone (taking_of o) o) o

abbrev pub counting : Option Operator → Option Operator
counting o = option_and_then (λ o. if_counted (taking_of o) o) o

abbrev pub relation_in : Option Operator → Option Relation
relation_in (Some (op.Test r)) = Some r
relation_in _ = None

-- one operand, which wraps
abbrev pub unary : Code → Width → ℕ → Option ℕ
unary code w a = option_map (λ o. number o w a 0) (alone (operator_of code))

-- two operands of the same mode; a quotient or remainder by zero has no value
abbrev pub operated : Operator → Width → ℕ → ℕ → Option ℕ
operated o w a b = if lacks (asks_of o) w b then None else Some (number o w a b)

abbrev pub binary : Code → Width → ℕ → ℕ → Option ℕ
binary code w a b = option_and_then (λ o. operated o w a b) (operator_of code)

-- a shift
abbrev pub shifted : Code → Width → ℕ → ℕ → Option ℕ
shifted code w a b = option_map (λ o. number o w a b) (counting (operator_of code))

-- a comparison of two numbers of a width
abbrev pub compared : Code → Width → ℕ → ℕ → Option ℕ
compared code w a b = option_map (λ r. truth (holds r w a b)) (relation_in (operator_of code))

-- from one width to another ("Conversions")
abbrev pub converted : Code → Width → Width → ℕ → Option ℕ
converted SignExtend from to a = Some (low to (sign_extended from a))
converted ZeroExtend from to a = Some (low to (zero_extended from a))
converted Truncate from to a = Some (low to a)
converted _ from to a = None

-- ---- expressions

-- an expression as its outside reads it: the width of its own mode, and its value in each width
pub record Reading : Type 0 where
  pub width : Option Width
  pub value : Width → Option ℕ

-- a value of one part
abbrev pub of_one : (ℕ → Option ℕ) → Option ℕ → Option ℕ
of_one f a = option_and_then f a

-- a value of two parts
abbrev pub of_two : {A B C : Type 0} → (A → B → Option C) → Option A → Option B → Option C
of_two f a b = option_and_then (λ x. option_and_then (f x) b) a

-- the first width, or else the second
abbrev pub first_width : Option Width → Option Width → Option Width
first_width None other = other
first_width (Some w) other = Some w

-- a shift count is read in its own mode, which may be any; a constant has none
abbrev pub count_width : Option Width → Width
count_width None = W64
count_width (Some w) = w

-- an expression without parts, in a width
abbrev pub value_of_none : List SymbolAt → Regs → Class → ℤ → List ℕ → Width → Option ℕ
-- "Registers and Memory": more bits than are known have no value
value_of_none symbols regs Register number name w = reg_value regs (cast_unsigned w64 number) w
-- "Constant Expression Types": a `const_int` has no mode, its low bits count; a `symbol_ref` is an
-- address
value_of_none symbols regs Constant number name w = Some (low w (cast_unsigned w64 number))
value_of_none symbols regs Symbol number name w = option_map (low w) (symbol_address symbols name)
value_of_none symbols regs _ number name w = None

-- "Conversions": the operand is read in its own mode
abbrev pub of_converted : Code → Reading → Width → Option ℕ
of_converted code a w = option_and_then (λ own. of_one (converted code own w) (a.value own)) a.width

-- an expression of one part
abbrev pub value_of_one : List MemByte → Class → Code → Reading → Width → Option ℕ
-- "Registers and Memory": the address of a `mem` has mode DI; a lowpart `subreg` reads the low bits
-- alone
value_of_one memory Memory code a w = of_one (load w memory) (a.value W64)
value_of_one memory Lowpart code a w = a.value w
value_of_one memory Unary code a w = of_one (unary code w) (a.value w)
value_of_one memory Extension code a w = of_converted code a w
value_of_one memory Truncation code a w = of_converted code a w
value_of_one memory _ code a w = None

-- "Comparison Operations": the operands have one mode, which one of them may leave to the other
abbrev pub of_compared : Code → Reading → Reading → Option ℕ
of_compared code a b =
    option_and_then (λ own. of_two (compared code own) (a.value own) (b.value own)) (first_width a.width b.width)

-- an expression of two parts
abbrev pub value_of_two : Class → Code → Reading → Reading → Width → Option ℕ
value_of_two Binary code a b w = of_two (binary code w) (a.value w) (b.value w)
value_of_two Shift code a b w = of_two (shifted code w) (a.value w) (b.value (count_width b.width))
value_of_two Comparison code a b w = of_compared code a b
value_of_two _ code a b w = None

-- an expression of more parts
abbrev pub value_of_parts : Class → Code → List Reading → Width → Option ℕ
value_of_parts class code (a ∷ b ∷ []) w = value_of_two class code a b w
value_of_parts class code _ w = None

-- an expression of a class, code, number, name and parts, in a width
abbrev pub value_by : List SymbolAt → Regs → List MemByte → Class → Code → ℤ → List ℕ →
    List Reading → Width → Option ℕ
value_by symbols regs memory class code number name [] w =
    value_of_none symbols regs class number name w
value_by symbols regs memory class code number name (a ∷ []) w = value_of_one memory class code a w
value_by symbols regs memory class code number name parts w = value_of_parts class code parts w

abbrev pub reading_step : List SymbolAt → Regs → List MemByte → Rtx-F Reading → Reading
reading_step symbols regs memory x = record { width = width_of x.mode; value = value_by symbols regs memory (class_of_code x.code) x.code x.number x.name x.kids }

abbrev pub reading_of : List SymbolAt → Regs → List MemByte → Rtx → Reading
reading_of symbols regs memory = fold-Rtx Reading (reading_step symbols regs memory)

-- the value of an expression in a width, or none
abbrev pub value_of : List SymbolAt → Regs → List MemByte → Rtx → Width → Option ℕ
value_of symbols regs memory x = (reading_of symbols regs memory x).value
