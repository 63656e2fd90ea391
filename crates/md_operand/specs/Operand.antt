-- What an operand is: GCC Internals, "Machine-Independent Predicates". A mode that is none accepts
-- every mode. That the frame's address has a predicate of its own is this project's.
use Rattle.std.specs.Prelude.{ℕ, ℤ, pos, negsuc, int_le, Bool, true, false, ◌&&◌, ◌||◌, List, [], ◌∷◌, Option, Some, None, if◌then◌else◌, codes}
use Rattle.std.specs.Str.{bytes_eq}
use Rattle.rtx_tree.specs.declared.code.Code.{Code}
use Rattle.rtx_tree.specs.declared.code.Code.TheVariants.{Reg, SymbolRef, Mem, Subreg}
use Rattle.rtx_tree.specs.declared.code.Mode.{Mode}
use Rattle.rtx_tree.specs.declared.code.Mode.TheVariants.{Void, QI, HI, SI, DI}
use Rattle.rtx_tree.specs.declared.tree.Rtx.{Rtx, out-Rtx}
use Rattle.rtx_tree.specs.Code.{class_of_code, is_comparison_class, same_mode}
pub use Rattle.rtx_tree.specs.Tree.{is_constant_code, is_constant}
use Rattle.md_operand.specs.Addresses.{is_legitimate_address, is_far_address, is_frame_reference, is_base}
use Rattle.md_operand.specs.declared.built_in.BuiltIn.{BuiltIn}
use Rattle.md_operand.specs.declared.built_in.BuiltIn.TheVariants as own

-- ---- modes

-- a mode that is none asks for nothing
abbrev pub accepts_mode : Mode → Mode → Bool
accepts_mode Void m = true
accepts_mode wanted m = same_mode wanted m

abbrev pub has_mode : Mode → Rtx → Bool
has_mode wanted x = accepts_mode wanted (out-Rtx x).mode

-- ---- kinds of operands, whatever their mode

abbrev pub is_register_by : Code → Rtx → List Rtx → Bool
is_register_by Reg x kids = is_base x
is_register_by Subreg x (inner ∷ []) = is_base inner
is_register_by _ x kids = false

-- a register other than virtual-stack-vars, or the low part of one
abbrev pub is_register : Rtx → Bool
is_register x = is_register_by (out-Rtx x).code x (out-Rtx x).kids

abbrev pub is_symbol_code : Code → Bool
is_symbol_code SymbolRef = true
is_symbol_code _ = false

abbrev pub is_symbol : Rtx → Bool
is_symbol x = is_symbol_code (out-Rtx x).code

abbrev pub is_memory_by : Code → List Rtx → Bool
is_memory_by Mem (address ∷ []) = is_legitimate_address address
is_memory_by _ kids = false

-- memory at a legitimate address
abbrev pub is_memory : Rtx → Bool
is_memory x = is_memory_by (out-Rtx x).code (out-Rtx x).kids

abbrev pub is_far_by : Code → List Rtx → Bool
is_far_by Mem (address ∷ []) = is_far_address address
is_far_by _ kids = false

-- memory at a far address
abbrev pub is_far : Rtx → Bool
is_far x = is_far_by (out-Rtx x).code (out-Rtx x).kids

-- a code of the class of comparisons
abbrev pub is_comparison_code : Code → Bool
is_comparison_code c = is_comparison_class (class_of_code c)

abbrev pub is_comparison : Rtx → Bool
is_comparison x = is_comparison_code (out-Rtx x).code

-- ---- operands in a mode

abbrev pub is_within : ℤ → ℤ → ℤ → Bool
is_within least greatest n = int_le least n && int_le n greatest

-- a signed number of the mode: the sign extension of its low bits
abbrev pub is_extended : Mode → ℤ → Bool
is_extended QI n = is_within (negsuc 127) (pos 127) n
is_extended HI n = is_within (negsuc 32767) (pos 32767) n
is_extended SI n = is_within (negsuc 2147483647) (pos 2147483647) n
is_extended _ n = true

abbrev pub register_operand : Mode → Rtx → Bool
register_operand m x = is_register x && has_mode m x

abbrev pub const_int_operand : Mode → Rtx → Bool
const_int_operand m x = is_constant x && is_extended m (out-Rtx x).number

-- a symbol is an address, and has the mode of one
abbrev pub symbol_operand : Mode → Rtx → Bool
symbol_operand m x = is_symbol x && accepts_mode m DI

abbrev pub immediate_operand : Mode → Rtx → Bool
immediate_operand m x = const_int_operand m x || symbol_operand m x

abbrev pub memory_operand : Mode → Rtx → Bool
memory_operand m x = is_memory x && has_mode m x

-- which trees a predicate of the manual accepts in a mode
abbrev pub accepts : BuiltIn → Mode → Rtx → Bool
accepts own.Anything m x = true
accepts own.Register m x = register_operand m x
accepts own.ConstInt m x = const_int_operand m x
accepts own.Immediate m x = immediate_operand m x
accepts own.Memory m x = memory_operand m x
accepts own.Nonimmediate m x = register_operand m x || memory_operand m x
accepts own.Nonmemory m x = register_operand m x || immediate_operand m x
accepts own.General m x = register_operand m x || (immediate_operand m x || memory_operand m x)
accepts own.Address m x = is_legitimate_address x
accepts own.Comparison m x = is_comparison x && has_mode m x
accepts own.OrderedComparison m x = is_comparison x && has_mode m x
accepts own.Frame m x = is_frame_reference x && has_mode m x

-- ---- their names

abbrev pub built_in_named : List ℕ → Option BuiltIn
built_in_named name = if bytes_eq name [] then Some own.Anything
    else if bytes_eq name (codes "register_operand") then Some own.Register
    else if bytes_eq name (codes "const_int_operand") then Some own.ConstInt
    else if bytes_eq name (codes "immediate_operand") then Some own.Immediate
    else if bytes_eq name (codes "memory_operand") then Some own.Memory
    else if bytes_eq name (codes "nonimmediate_operand") then Some own.Nonimmediate
    else if bytes_eq name (codes "nonmemory_operand") then Some own.Nonmemory
    else if bytes_eq name (codes "general_operand") then Some own.General
    else if bytes_eq name (codes "address_operand") then Some own.Address
    else if bytes_eq name (codes "comparison_operator") then Some own.Comparison
    else if bytes_eq name (codes "ordered_comparison_operator") then Some own.OrderedComparison
    else if bytes_eq name (codes "frame_operand") then Some own.Frame
    else None
