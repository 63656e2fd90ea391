-- The shape of a tree: the mode and the parts that the class of its code asks for: GCC Internals,
-- "RTL Objects", "RTL Expressions", "Registers and Memory", "RTL Expressions for Arithmetic",
-- "Comparison Operations", "Conversions" and "Side Effect Expressions".
use Rattle.std.specs.Prelude.{ℕ, ◌||◌, ◌&&◌, ◌==◌, nat_le, nat_lt, not, Bool, true, false, List, [], ◌∷◌}
use Rattle.std.specs.Int.{cast_unsigned, w64}
use Rattle.std.specs.List.{list_all}
pub use Rattle.rtx_tree.specs.Code.{is_constant_class, is_counter_class, is_comparison_class}
use Rattle.rtx_tree.specs.Code.{class_of_code, is_value_class, is_place_class, is_effect_class, mode_bits}
use Rattle.rtx_tree.specs.declared.code.Mode.{Mode}
use Rattle.rtx_tree.specs.declared.code.Mode.TheVariants.{SI, DI}
use Rattle.rtx_tree.specs.declared.tree.Rtx.{Rtx, out-Rtx}
use Rattle.rtx_tree.specs.declared.class.Class.{Class}
use Rattle.rtx_tree.specs.declared.class.Class.TheVariants as class

-- what a tree is, by its code
abbrev pub class_at : Rtx → Class
class_at x = class_of_code (out-Rtx x).code

abbrev pub mode_at : Rtx → Mode
mode_at x = (out-Rtx x).mode

abbrev pub number_at : Rtx → ℕ
number_at x = cast_unsigned w64 (out-Rtx x).number

-- ---- modes

abbrev pub has_mode : Mode → Bool
has_mode mode = nat_lt 0 (mode_bits mode)

abbrev pub same_mode : Mode → Mode → Bool
same_mode a b = mode_bits a == mode_bits b

-- both are modes, and the first has fewer bits
abbrev pub is_narrower : Mode → Mode → Bool
is_narrower a b = has_mode a && nat_lt (mode_bits a) (mode_bits b)

-- ---- what stands for what

-- a constant
abbrev pub is_constant : Rtx → Bool
is_constant x = is_constant_class (class_at x)

-- a place that is set
abbrev pub is_place : Rtx → Bool
is_place x = is_place_class (class_at x)

-- a value
abbrev pub is_value : Rtx → Bool
is_value x = is_value_class (class_at x)

-- an effect
abbrev pub is_effect : Rtx → Bool
is_effect x = is_effect_class (class_at x)

-- an operand of a mode, which a constant is of every mode
abbrev pub is_operand : Mode → Rtx → Bool
is_operand mode x = is_value x && (is_constant x || same_mode mode (mode_at x))

-- a value of some mode, or a constant
abbrev pub is_some_operand : Rtx → Bool
is_some_operand x = is_value x && (is_constant x || has_mode (mode_at x))

-- a value of some mode
abbrev pub is_moded : Rtx → Bool
is_moded x = is_value x && has_mode (mode_at x)

-- two operands of one mode, one of them perhaps a constant
abbrev pub are_compared : Rtx → Rtx → Bool
are_compared a b = (is_moded a && is_operand (mode_at a) b) || (is_constant a && is_moded b)

-- the numbers of registers: hard ones, virtual-stack-vars, and pseudos
abbrev pub is_register_number : ℕ → Bool
is_register_number reg = nat_le reg 32 || (nat_le 64 reg && nat_lt reg 2147483712)

abbrev pub is_true_register : Class → ℕ → Bool
is_true_register class.Register reg = not (reg == 32)
is_true_register _ reg = false

-- a label_ref, or a choice between one and the next instruction
abbrev pub is_jump_source_class : Class → Bool
is_jump_source_class class.Label = true
is_jump_source_class class.Branch = true
is_jump_source_class _ = false

abbrev pub is_label_class : Class → Bool
is_label_class class.Label = true
is_label_class _ = false

abbrev pub is_call_class : Class → Bool
is_call_class class.Call = true
is_call_class _ = false

abbrev pub is_memory_class : Class → Bool
is_memory_class class.Memory = true
is_memory_class _ = false

abbrev pub is_scratch_class : Class → Bool
is_scratch_class class.Scratch = true
is_scratch_class _ = false

-- what is set, and to what: a place to a value of its mode or to a call's result, or the pc
abbrev pub is_set_to : Rtx → Rtx → Bool
is_set_to target source =
    (is_place target && (is_operand (mode_at target) source || is_call_class (class_at source)))
    || (is_counter_class (class_at target) && is_jump_source_class (class_at source))

-- ---- the table

-- what a class asks of the mode and the register's number, where there is no part
abbrev pub fits_none : Class → Mode → ℕ → Bool
fits_none class.Register mode reg = has_mode mode && is_register_number reg
fits_none class.Constant mode reg = not (has_mode mode)
fits_none class.Symbol mode reg = same_mode mode DI
fits_none class.Return mode reg = not (has_mode mode)
fits_none class.Counter mode reg = not (has_mode mode)
fits_none class.Scratch mode reg = has_mode mode
fits_none _ mode reg = false

-- what a class asks of the mode and of one part
abbrev pub fits_one : Class → Mode → Rtx → Bool
fits_one class.Memory mode address = has_mode mode && is_operand DI address
fits_one class.Lowpart mode whole =
    is_true_register (class_at whole) (number_at whole) && is_narrower mode (mode_at whole)
fits_one class.Unary mode a = has_mode mode && is_operand mode a
fits_one class.Extension mode a = is_value a && is_narrower (mode_at a) mode
fits_one class.Truncation mode a = is_value a && is_narrower mode (mode_at a)
fits_one class.Use mode x = not (has_mode mode) && is_value x
fits_one class.Clobber mode x = not (has_mode mode) && (is_place x || is_scratch_class (class_at x))
fits_one class.Label mode uid = not (has_mode mode) && is_constant uid
fits_one _ mode x = false

-- the memory of a call's target, and a constant
abbrev pub is_called : Rtx → Rtx → Bool
is_called place size = is_memory_class (class_at place) && is_constant size

-- what a class asks of the mode and of two parts
abbrev pub fits_two : Class → Mode → Rtx → Rtx → Bool
fits_two class.Binary mode a b = has_mode mode && (is_operand mode a && is_operand mode b)
fits_two class.Shift mode a count = has_mode mode && (is_operand mode a && is_some_operand count)
fits_two class.Comparison mode a b =
    (not (has_mode mode) || nat_le 32 (mode_bits mode)) && are_compared a b
fits_two class.Setting mode target source = not (has_mode mode) && is_set_to target source
fits_two class.Call mode place size = not (has_mode mode) && is_called place size
fits_two _ mode a b = false

-- a comparison, a label_ref and the pc
abbrev pub is_choice : Rtx → Rtx → Rtx → Bool
is_choice test label next =
    is_comparison_class (class_at test) &&
    (is_label_class (class_at label) && is_counter_class (class_at next))

-- what a class asks of the mode and of three parts
abbrev pub fits_three : Class → Mode → Rtx → Rtx → Rtx → Bool
fits_three class.Branch mode test label next = not (has_mode mode) && is_choice test label next
fits_three _ mode a b c = false

abbrev pub fits_parts : Class → Mode → ℕ → List Rtx → Bool
fits_parts row mode reg [] = fits_none row mode reg
fits_parts row mode reg (a ∷ []) = fits_one row mode a
fits_parts row mode reg (a ∷ b ∷ []) = fits_two row mode a b
fits_parts row mode reg (a ∷ b ∷ c ∷ []) = fits_three row mode a b c
fits_parts row mode reg _ = false

-- a parallel has any number of effects
abbrev pub fits_row : Class → Mode → ℕ → List Rtx → Bool
fits_row class.Parallel mode reg effects = not (has_mode mode) && list_all is_effect effects
fits_row row mode reg parts = fits_parts row mode reg parts

-- a number stands in registers and constants alone, and a name in symbols alone
abbrev pub has_number : Class → Bool
has_number class.Register = true
has_number class.Constant = true
has_number _ = false

abbrev pub is_symbol_class : Class → Bool
is_symbol_class class.Symbol = true
is_symbol_class _ = false

abbrev pub is_nameless : List ℕ → Bool
is_nameless [] = true
is_nameless (b ∷ name) = false

abbrev pub is_bare : Class → ℕ → List ℕ → Bool
is_bare row number name =
    (has_number row || number == 0) && (is_symbol_class row || is_nameless name)

-- a tree has the parts of its class, each with the mode that the class asks for; the mode of a
-- call's memory is not asked
abbrev pub is_shaped : Rtx → Bool
is_shaped x =
    is_bare (class_at x) (number_at x) (out-Rtx x).name
    && fits_row (class_at x) (mode_at x) (number_at x) (out-Rtx x).kids

abbrev pub has_call_mode_by : Class → List Rtx → Bool
has_call_mode_by class.Call (place ∷ parts) = same_mode (mode_at place) SI
has_call_mode_by _ parts = true

-- a call's memory has mode SI
abbrev pub has_call_mode : Rtx → Bool
has_call_mode x = has_call_mode_by (class_at x) (out-Rtx x).kids
