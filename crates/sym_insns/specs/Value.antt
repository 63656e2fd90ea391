-- The value of an expression as a term, and what it needs: GCC Internals, chapter "RTL
-- Representation", whose sections the comments name. It is the value of an expression over terms in
-- place of numbers: each term is made, by the rules of the normal form, of terms in normal form.
use Rattle.std.specs.Prelude.{ℕ, ◌==◌, not, ℤ, Bool, false, if◌then◌else◌, List, [], ◌∷◌, ◌++◌, length, Option, Some, None}
use Rattle.std.specs.Int.{cast_unsigned, w64}
use Rattle.bits64.specs.declared.Width.{Width}
use Rattle.bits64.specs.declared.Width.TheVariants.{W64}
use Rattle.bits64.specs.declared.operator.Operator.{Operator}
use Rattle.bits64.specs.declared.operator.Relation.{Relation}
use Rattle.bits64.specs.declared.operator.Asks.{Asks}
use Rattle.bits64.specs.declared.operator.Asks.TheVariants.{Nothing, SecondNonzero}
use Rattle.bits64.specs.Operators.{asks_of}
use Rattle.rtx_tree.specs.Code.{class_of_code}
use Rattle.rtx_tree.specs.declared.code.Code.{Code}
use Rattle.rtx_tree.specs.declared.code.Code.TheVariants.{SignExtend, ZeroExtend, Truncate}
use Rattle.rtx_tree.specs.declared.class.Class.{Class}
use Rattle.rtx_tree.specs.declared.class.Class.TheVariants.{Register, Constant, Symbol, Memory, Lowpart, Unary, Binary, Shift, Extension, Truncation, Comparison}
use Rattle.rtx_tree.specs.declared.tree.Rtx.{Rtx}
use Rattle.rtx_tree.specs.declared.tree.Rtx.TheOpen.{Rtx-F}
use Rattle.rtx_tree.specs.declared.tree.Rtx.TheFolds.{fold-Rtx}
use Rattle.rtl_step.specs.Value.{width_of, first_width, count_width, operator_of, alone, counting, relation_in}
use Rattle.term_tree.specs.declared.head.Head.{Head}
use Rattle.term_tree.specs.declared.head.Head.TheVariants as heads
use Rattle.term_tree.specs.Tree.{Tree}
use Rattle.term_mean.specs.Stores.{Store}
use Rattle.term_mean.specs.Sums.{constant, constant_in}
use Rattle.term_mean.specs.Normal.{built}
use Rattle.term_mean.specs.Compared.{low_bits}
use Rattle.sym_state.specs.State as state
use Rattle.sym_state.specs.State.{Changed, Need, Lost, Access, Divisor, own_symbol}
use Rattle.sym_state.specs.Makers.{one, related, term_of}
use Rattle.sym_state.specs.Registers.{read, read_needs}

-- a term, and what it needs, in the order in which it is met
pub record Made : Type 0 where
  pub term : Tree
  pub needs : List Need

-- what has no value needs what nothing meets
abbrev pub no_value : Width → Made
no_value w = record { term = constant w 0; needs = Lost 0 w ∷ [] }

-- an expression as its outside reads it: the width of its own mode, and what is made of it in each
-- width
pub record Reading : Type 0 where
  pub width : Option Width
  pub made : Width → Made

-- ---- operations on terms of a width

-- a constant other than 0
abbrev pub is_nonzero : Option ℕ → Bool
is_nonzero None = false
is_nonzero (Some c) = not (c == 0)

-- a divisor has not to be 0; a constant that is not needs nothing
abbrev pub divisor_needs : Asks → Tree → List Need
divisor_needs Nothing b = []
divisor_needs SecondNonzero b = if is_nonzero (constant_in b) then [] else Divisor b ∷ []

-- ("Conversions")
abbrev pub conversion_of : Code → Option Head
conversion_of SignExtend = Some heads.Sext
conversion_of ZeroExtend = Some heads.Zext
conversion_of Truncate = Some heads.Trunc
conversion_of _ = None

-- ---- terms with what they need

abbrev pub of_one : (Tree → Tree) → Made → Made
of_one f a = record { term = f a.term; needs = a.needs }

abbrev pub of_two : (Tree → Tree → Tree) → Made → Made → Made
of_two f a b = record { term = f a.term b.term; needs = a.needs ++ b.needs }

-- ("RTL Expressions for Arithmetic") one operand
abbrev pub of_operand : List Store → Option Operator → Width → Made → Made
of_operand stores None w a = no_value w
of_operand stores (Some o) w a = of_one (λ t. term_of stores o w t (constant w 0)) a

-- two operands of the same mode, the second of which may be a divisor
abbrev pub of_operands : List Store → Option Operator → Width → Made → Made → Made
of_operands stores None w a b = no_value w
of_operands stores (Some o) w a b = record {
  term = term_of stores o w a.term b.term;
  needs = (a.needs ++ b.needs) ++ divisor_needs (asks_of o) b.term;
}

-- an operand and a count
abbrev pub of_shifted : List Store → Option Operator → Width → Made → Made → Made
of_shifted stores None w a b = no_value w
of_shifted stores (Some o) w a b = of_two (term_of stores o w) a b

-- ("Conversions") an operand of another width
abbrev pub of_conversion : List Store → Option Head → Width → Made → Made
of_conversion stores None w a = no_value w
of_conversion stores (Some h) w a = of_one (one stores h w) a

-- ("Comparison Operations") two operands of so many bits
abbrev pub of_related : List Store → Option Relation → Width → Width → Made → Made → Made
of_related stores None own w a b = no_value w
of_related stores (Some r) own w a b = of_two (related stores r own w) a b

-- ---- expressions

-- ("Registers and Memory") the low bits of a register
abbrev pub of_register : List Changed → ℕ → Width → Made
of_register regs reg w = record { term = read regs reg w; needs = read_needs regs reg w }

-- ("Constant Expression Types") the address of a symbol
abbrev pub of_symbol : List ℕ → Width → Made
of_symbol name w = record { term = low_bits w (own_symbol name); needs = state.Symbol name ∷ [] }

-- what stands at an address of 64 bits in the memory behind all stores so far
abbrev pub load_at : List Store → Width → Tree → Tree
load_at stores w at = built stores heads.Load w (length stores) [] (at ∷ [])

-- ("Registers and Memory")
abbrev pub loaded : List Store → Width → Made → Made
loaded stores w a =
    record { term = load_at stores w a.term; needs = a.needs ++ Access a.term w ∷ [] }

-- an expression without parts, in a width
abbrev pub made_of_none : List Changed → Class → ℤ → List ℕ → Width → Made
made_of_none regs Register number name w = of_register regs (cast_unsigned w64 number) w
-- "Constant Expression Types"
made_of_none regs Constant number name w =
    record { term = constant w (cast_unsigned w64 number); needs = [] }
made_of_none regs Symbol number name w = of_symbol name w
made_of_none regs _ number name w = no_value w

-- "Conversions": the operand is read in its own mode
abbrev pub of_converted : List Store → Option Width → Code → Reading → Width → Made
of_converted stores None code a w = no_value w
of_converted stores (Some own) code a w =
    of_conversion stores (conversion_of code) w (a.made own)

-- an expression of one part
abbrev pub made_of_one : List Store → Class → Code → Reading → Width → Made
-- "Registers and Memory": an address has mode DI; a lowpart `subreg` reads the low bits alone
made_of_one stores Memory code a w = loaded stores w (a.made W64)
made_of_one stores Lowpart code a w = a.made w
made_of_one stores Unary code a w = of_operand stores (alone (operator_of code)) w (a.made w)
made_of_one stores Extension code a w = of_converted stores a.width code a w
made_of_one stores Truncation code a w = of_converted stores a.width code a w
made_of_one stores _ code a w = no_value w

-- "Comparison Operations": the operands have one mode, which one of them may leave to the other
abbrev pub of_compared : List Store → Option Width → Code → Reading → Reading → Width → Made
of_compared stores None code a b w = no_value w
of_compared stores (Some own) code a b w =
    of_related stores (relation_in (operator_of code)) own w (a.made own) (b.made own)

-- an expression of two parts
abbrev pub made_of_two : List Store → Class → Code → Reading → Reading → Width → Made
made_of_two stores Binary code a b w =
    of_operands stores (operator_of code) w (a.made w) (b.made w)
made_of_two stores Shift code a b w =
    of_shifted stores (counting (operator_of code)) w (a.made w) (b.made (count_width b.width))
made_of_two stores Comparison code a b w =
    of_compared stores (first_width a.width b.width) code a b w
made_of_two stores _ code a b w = no_value w

-- an expression of more parts
abbrev pub made_of_parts : List Store → Class → Code → List Reading → Width → Made
made_of_parts stores class code (a ∷ b ∷ []) w = made_of_two stores class code a b w
made_of_parts stores class code _ w = no_value w

-- an expression of a class, code, number, name and parts, in a width
abbrev pub made_by : List Changed → List Store → Class → Code → ℤ → List ℕ → List Reading → Width →
    Made
made_by regs stores class code number name [] w = made_of_none regs class number name w
made_by regs stores class code number name (a ∷ []) w = made_of_one stores class code a w
made_by regs stores class code number name parts w = made_of_parts stores class code parts w

abbrev pub reading_step : List Changed → List Store → Rtx-F Reading → Reading
reading_step regs stores x = record {
  width = width_of x.mode;
  made = made_by regs stores (class_of_code x.code) x.code x.number x.name x.kids;
}

abbrev pub reading_of : List Changed → List Store → Rtx → Reading
reading_of regs stores = fold-Rtx Reading (reading_step regs stores)

-- what is made of an expression in a width, by registers and stores
abbrev pub made_of : List Changed → List Store → Rtx → Width → Made
made_of regs stores x = (reading_of regs stores x).made
