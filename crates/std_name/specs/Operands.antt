-- The operands of an instruction that has a standard name, and what may stand there: GCC Internals,
-- "Standard Pattern Names For Generation" and "Registers and Memory".
use Rattle.std.specs.Prelude.{ℕ, ◌&&◌, ◌==◌, not, Bool, true, false, if◌then◌else◌, List, [], ◌∷◌}
use Rattle.rtx_tree.specs.declared.class.Class.{Class}
use Rattle.rtx_tree.specs.declared.class.Class.TheVariants as class
use Rattle.rtx_tree.specs.declared.code.Mode.{Mode}
use Rattle.rtx_tree.specs.declared.code.Mode.TheVariants.{DI}
use Rattle.rtx_tree.specs.declared.tree.Rtx.{Rtx}
use Rattle.rtx_tree.specs.Registers.{virtual_stack_vars}
use Rattle.rtl_func.specs.Shapes.{class_at, mode_at, number_at, is_place}
use Rattle.std_name.specs.declared.standard.OperandRole.{OperandRole}
use Rattle.std_name.specs.declared.standard.OperandRole.TheVariants.{Target, Input, Comparison, Fixed}
use Rattle.std_name.specs.declared.standard.StandardOperand.{StandardOperand}

-- ---- what may stand as an operand

abbrev pub is_leaf_class : Class → Bool
is_leaf_class class.Register = true
is_leaf_class class.Lowpart = true
is_leaf_class class.Memory = true
is_leaf_class class.Constant = true
is_leaf_class class.Symbol = true
is_leaf_class _ = false

-- a register, its low part, memory, a constant or a symbol
abbrev pub is_leaf : Rtx → Bool
is_leaf x = is_leaf_class (class_at x)

abbrev pub is_vars_by : Class → ℕ → Bool
is_vars_by class.Register number = number == virtual_stack_vars
is_vars_by _ number = false

-- the address of the locals
abbrev pub is_vars : Rtx → Bool
is_vars x = is_vars_by (class_at x) (number_at x)

-- what can be set: a register but the address of the locals, its low part, or memory
abbrev pub is_target : Rtx → Bool
is_target x = is_place x && not (is_vars x)

-- an operand may stand in its role
abbrev pub fits_role : OperandRole → Rtx → Bool
fits_role Target x = is_target x
fits_role Input x = is_leaf x
fits_role Comparison x = true
fits_role Fixed x = true

abbrev pub fits : StandardOperand → Bool
fits operand = fits_role operand.role operand.tree

-- ---- operands

-- the mode of a value that stands where a constant would have a mode
abbrev pub mode_by : Class → Mode → Mode → Mode
mode_by class.Constant there mode = there
mode_by class.Symbol there mode = DI
mode_by _ there mode = mode

abbrev pub mode_in : Mode → Rtx → Mode
mode_in there x = mode_by (class_at x) there (mode_at x)

-- what the instruction sets
abbrev pub target : Rtx → StandardOperand
target x = record { tree = x; role = Target; mode = mode_at x }

-- a value that it takes, where a constant has a mode
abbrev pub input : Mode → Rtx → StandardOperand
input there x = record { tree = x; role = Input; mode = mode_in there x }

-- a comparison of the two operands behind it
abbrev pub comparison : Rtx → StandardOperand
comparison x = record { tree = x; role = Comparison; mode = mode_at x }

-- a label, or a constant that has its place
abbrev pub fixed : Rtx → StandardOperand
fixed x = record { tree = x; role = Fixed; mode = mode_at x }
