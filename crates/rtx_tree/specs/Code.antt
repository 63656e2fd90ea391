-- The table of RTL's codes, and the machine modes: GCC Internals, "RTL Expressions", "RTL Classes"
-- and "Machine Modes". Each code has its name and its class; a class says what stands behind the
-- code in its list, how many kids its tree has, whether a mode is written there, whether it is a
-- value, a place or an effect, and, by its name, what an expression of the code is.
use Rattle.std.specs.Prelude.{◌≡◌, ℕ, Bool, true, false, List, [], ◌∷◌, Option, Some, None, if◌then◌else◌, slice_get, find, codes}
use Rattle.std.specs.Str.{bytes_eq}
use Rattle.rtx_tree.specs.declared.code.Code.{Code}
use Rattle.rtx_tree.specs.declared.code.Code.TheVariants as code
use Rattle.rtx_tree.specs.declared.code.Mode.{Mode}
use Rattle.rtx_tree.specs.declared.code.Mode.TheVariants.{Void, QI, HI, SI, DI}
use Rattle.rtx_tree.specs.declared.class.Class.{Class}
use Rattle.rtx_tree.specs.declared.class.Class.TheVariants as class
use Rattle.rtx_tree.specs.declared.class.Parts.{Parts}
use Rattle.rtx_tree.specs.declared.class.Parts.TheVariants.{Register, Number, Symbol, Lowpart, Expressions, Vector, Operand, Scratch, Dup, Operator, OperatorDup}
use Rattle.rtx_tree.specs.declared.class.HeadMode.{HeadMode}
use Rattle.rtx_tree.specs.declared.class.HeadMode.TheVariants.{Needed, Optional, Ignored, Absent}

-- ---- the codes

pub record Row : Type 0 where
  pub name : List ℕ
  pub class : Class

abbrev row : List ℕ → Class → Row
row name class = record { name = name; class = class }

-- the row of each code
abbrev pub row_of : Code → Row
-- "Registers and Memory", "Constant Expression Types"
row_of code.Reg = row (codes "reg") class.Register
row_of code.ConstInt = row (codes "const_int") class.Constant
row_of code.SymbolRef = row (codes "symbol_ref") class.Symbol
row_of code.Mem = row (codes "mem") class.Memory
row_of code.Subreg = row (codes "subreg") class.Lowpart
-- "RTL Expressions for Arithmetic"
row_of code.Plus = row (codes "plus") class.Binary
row_of code.Minus = row (codes "minus") class.Binary
row_of code.Mult = row (codes "mult") class.Binary
row_of code.Div = row (codes "div") class.Binary
row_of code.Udiv = row (codes "udiv") class.Binary
row_of code.Mod = row (codes "mod") class.Binary
row_of code.Umod = row (codes "umod") class.Binary
row_of code.And = row (codes "and") class.Binary
row_of code.Ior = row (codes "ior") class.Binary
row_of code.Xor = row (codes "xor") class.Binary
row_of code.Neg = row (codes "neg") class.Unary
row_of code.Not = row (codes "not") class.Unary
row_of code.Ashift = row (codes "ashift") class.Shift
row_of code.Ashiftrt = row (codes "ashiftrt") class.Shift
row_of code.Lshiftrt = row (codes "lshiftrt") class.Shift
-- "Conversions"
row_of code.SignExtend = row (codes "sign_extend") class.Extension
row_of code.ZeroExtend = row (codes "zero_extend") class.Extension
row_of code.Truncate = row (codes "truncate") class.Truncation
-- "Comparison Operations"
row_of code.Eq = row (codes "eq") class.Comparison
row_of code.Ne = row (codes "ne") class.Comparison
row_of code.Lt = row (codes "lt") class.Comparison
row_of code.Le = row (codes "le") class.Comparison
row_of code.Gt = row (codes "gt") class.Comparison
row_of code.Ge = row (codes "ge") class.Comparison
row_of code.Ltu = row (codes "ltu") class.Comparison
row_of code.Leu = row (codes "leu") class.Comparison
row_of code.Gtu = row (codes "gtu") class.Comparison
row_of code.Geu = row (codes "geu") class.Comparison
-- "Side Effect Expressions"
row_of code.Set = row (codes "set") class.Setting
row_of code.Use = row (codes "use") class.Use
row_of code.Clobber = row (codes "clobber") class.Clobber
row_of code.Parallel = row (codes "parallel") class.Parallel
row_of code.Call = row (codes "call") class.Call
row_of code.Return = row (codes "return") class.Return
-- "Registers and Memory", "Constant Expression Types", "Comparison Operations"
row_of code.Pc = row (codes "pc") class.Counter
row_of code.LabelRef = row (codes "label_ref") class.Label
row_of code.IfThenElse = row (codes "if_then_else") class.Branch
row_of code.Scratch = row (codes "scratch") class.Scratch
-- "RTL Template"
row_of code.MatchOperand = row (codes "match_operand") class.Operand
row_of code.MatchDup = row (codes "match_dup") class.OperandAgain
row_of code.MatchScratch = row (codes "match_scratch") class.OperandScratch
row_of code.MatchOperator = row (codes "match_operator") class.Operator
row_of code.MatchOpDup = row (codes "match_op_dup") class.OperatorAgain

abbrev pub code_name : Code → List ℕ
code_name c = (row_of c).name

abbrev pub class_of_code : Code → Class
class_of_code c = (row_of c).class

-- every code, once
abbrev pub all_codes : List Code
all_codes =
    code.Reg ∷ code.ConstInt ∷ code.SymbolRef ∷ code.Mem ∷ code.Subreg ∷ code.Plus ∷
    code.Minus ∷ code.Mult ∷ code.Div ∷ code.Udiv ∷ code.Mod ∷ code.Umod ∷
    code.And ∷ code.Ior ∷ code.Xor ∷ code.Neg ∷ code.Not ∷ code.Ashift ∷
    code.Ashiftrt ∷ code.Lshiftrt ∷ code.SignExtend ∷ code.ZeroExtend ∷ code.Truncate ∷ code.Eq ∷
    code.Ne ∷ code.Lt ∷ code.Le ∷ code.Gt ∷ code.Ge ∷ code.Ltu ∷
    code.Leu ∷ code.Gtu ∷ code.Geu ∷ code.Set ∷ code.Use ∷ code.Clobber ∷
    code.Parallel ∷ code.Call ∷ code.Return ∷ code.Pc ∷ code.LabelRef ∷ code.IfThenElse ∷
    code.Scratch ∷ code.MatchOperand ∷ code.MatchDup ∷ code.MatchScratch ∷ code.MatchOperator ∷ code.MatchOpDup ∷ []

-- the list leaves no code out
abbrev pub HasEvery : Type 0
HasEvery = (c : Code) → (place : ℕ) × (slice_get all_codes place ≡ Some c)

-- no code stands at two places of the list
abbrev pub HasOnce : Type 0
HasOnce = (c : Code) (a b : ℕ) → slice_get all_codes a ≡ Some c → slice_get all_codes b ≡ Some c → a ≡ b

-- the code with a name
unfoldable pub code_named : List ℕ → Option Code
code_named name = find (λ c. bytes_eq (code_name c) name) all_codes

-- the code that a word of a text stands for: a `simple_return` is a return ("Side Effect
-- Expressions")
abbrev pub code_in : List ℕ → Option Code
code_in word = if bytes_eq word (codes "simple_return") then Some code.Return else code_named word

-- the comparison that holds exactly where another doesn't
abbrev pub reversed : Code → Option Code
reversed code.Eq = Some code.Ne
reversed code.Ne = Some code.Eq
reversed code.Lt = Some code.Ge
reversed code.Ge = Some code.Lt
reversed code.Gt = Some code.Le
reversed code.Le = Some code.Gt
reversed code.Ltu = Some code.Geu
reversed code.Geu = Some code.Ltu
reversed code.Gtu = Some code.Leu
reversed code.Leu = Some code.Gtu
reversed _ = None

-- ---- the classes

-- what stands behind a code in its list ("RTL Template"). In a function a label is its uid alone
abbrev pub parts_of : Class → Parts
parts_of class.Register = Register
parts_of class.Constant = Number
parts_of class.Symbol = Symbol
parts_of class.Memory = Expressions 1
parts_of class.Lowpart = Lowpart
parts_of class.Unary = Expressions 1
parts_of class.Binary = Expressions 2
parts_of class.Shift = Expressions 2
parts_of class.Extension = Expressions 1
parts_of class.Truncation = Expressions 1
parts_of class.Comparison = Expressions 2
parts_of class.Setting = Expressions 2
parts_of class.Use = Expressions 1
parts_of class.Clobber = Expressions 1
parts_of class.Parallel = Vector
parts_of class.Call = Expressions 2
parts_of class.Return = Expressions 0
parts_of class.Counter = Expressions 0
parts_of class.Label = Expressions 1
parts_of class.Branch = Expressions 3
parts_of class.Scratch = Expressions 0
parts_of class.Operand = Operand
parts_of class.OperandAgain = Dup
parts_of class.OperandScratch = Scratch
parts_of class.Operator = Operator
parts_of class.OperatorAgain = OperatorDup

-- how many kids a tree has by what stands behind its code: words are no kids, and neither is a
-- lowpart's offset; a vector is any number of kids
abbrev pub HasKids : Parts → ℕ → Type 0
HasKids (Expressions count) kids = kids ≡ count
HasKids Lowpart kids = kids ≡ 1
HasKids Vector kids = Unit {0}
HasKids Operator kids = Unit {0}
HasKids OperatorDup kids = Unit {0}
HasKids _ kids = kids ≡ 0

-- whether a mode is written behind the code
abbrev pub head_mode_of : Class → HeadMode
head_mode_of class.Register = Needed
head_mode_of class.Symbol = Needed
head_mode_of class.Memory = Needed
head_mode_of class.Lowpart = Needed
head_mode_of class.Unary = Needed
head_mode_of class.Binary = Needed
head_mode_of class.Shift = Needed
head_mode_of class.Extension = Needed
head_mode_of class.Truncation = Needed
head_mode_of class.Scratch = Needed
head_mode_of class.Operand = Needed
head_mode_of class.OperandScratch = Needed
head_mode_of class.Operator = Needed
head_mode_of class.Comparison = Optional
head_mode_of class.Label = Ignored
head_mode_of _ = Absent

-- what has a value, also as an address or a shift count
abbrev pub is_value_class : Class → Bool
is_value_class class.Register = true
is_value_class class.Constant = true
is_value_class class.Symbol = true
is_value_class class.Memory = true
is_value_class class.Lowpart = true
is_value_class class.Unary = true
is_value_class class.Binary = true
is_value_class class.Shift = true
is_value_class class.Extension = true
is_value_class class.Truncation = true
is_value_class class.Comparison = true
is_value_class _ = false

-- what may be set
abbrev pub is_place_class : Class → Bool
is_place_class class.Register = true
is_place_class class.Memory = true
is_place_class class.Lowpart = true
is_place_class _ = false

-- an effect: what an instruction or an element of a `parallel` may be
abbrev pub is_effect_class : Class → Bool
is_effect_class class.Setting = true
is_effect_class class.Use = true
is_effect_class class.Clobber = true
is_effect_class class.Parallel = true
is_effect_class class.Call = true
is_effect_class class.Return = true
is_effect_class _ = false

-- a number
abbrev pub is_constant_class : Class → Bool
is_constant_class class.Constant = true
is_constant_class _ = false

-- the program counter
abbrev pub is_counter_class : Class → Bool
is_counter_class class.Counter = true
is_counter_class _ = false

-- a comparison of two values
abbrev pub is_comparison_class : Class → Bool
is_comparison_class class.Comparison = true
is_comparison_class _ = false

-- codes are the same where their names are
abbrev pub same_code : Code → Code → Bool
same_code a b = bytes_eq (code_name a) (code_name b)

-- ---- the modes

-- the name of a mode, which stands behind the code and a colon; no mode has no name
abbrev pub mode_name : Mode → List ℕ
mode_name Void = []
mode_name QI = codes "QI"
mode_name HI = codes "HI"
mode_name SI = codes "SI"
mode_name DI = codes "DI"

-- modes are the same where their names are
abbrev pub same_mode : Mode → Mode → Bool
same_mode a b = bytes_eq (mode_name a) (mode_name b)

-- the modes that have a name
abbrev pub named_modes : List Mode
named_modes = QI ∷ HI ∷ SI ∷ DI ∷ []

-- the mode with a name
unfoldable pub mode_named : List ℕ → Option Mode
mode_named name = find (λ m. bytes_eq (mode_name m) name) named_modes

-- the bits of a mode; no mode has none
abbrev pub mode_bits : Mode → ℕ
mode_bits Void = 0
mode_bits QI = 8
mode_bits HI = 16
mode_bits SI = 32
mode_bits DI = 64

-- a mode, or another where it is none
abbrev pub mode_or : Mode → Mode → Mode
mode_or Void other = other
mode_or own other = own
