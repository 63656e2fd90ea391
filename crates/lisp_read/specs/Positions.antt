-- What may stand where in an expression: GCC Internals, "RTL Expressions", with "Side Effect
-- Expressions" and "Jump Patterns", as far as this program takes it.
use Rattle.std.specs.Prelude.{ℕ, Bool, true, false, not, ◌==◌, Option, Some, None, option_map}
use Rattle.rtx_tree.specs.declared.code.Mode.{Mode}
use Rattle.rtx_tree.specs.declared.code.Mode.TheVariants.{Void, SI}
use Rattle.rtx_tree.specs.Registers.{virtual_stack_vars}
use Rattle.rtx_tree.specs.declared.class.Class.{Class}
use Rattle.rtx_tree.specs.declared.class.Class.TheVariants.{Register, Constant, Memory, Comparison, Call, Counter, Label, Branch, Scratch, Operand, OperandAgain, OperandScratch, Operator, OperatorAgain}
use Rattle.rtx_tree.specs.declared.class.HeadMode.{HeadMode}
use Rattle.rtx_tree.specs.declared.class.HeadMode.TheVariants.{Needed, Optional, Ignored, Absent}
use Rattle.rtx_tree.specs.Code.{head_mode_of, is_value_class, is_place_class, is_effect_class}
use Rattle.lisp_read.specs.declared.position.Position.{Position}
use Rattle.lisp_read.specs.declared.position.Position.TheVariants as position

-- what stands in a description's patterns alone
abbrev pub is_of_pattern : Class → Bool
is_of_pattern Operand = true
is_of_pattern OperandAgain = true
is_of_pattern OperandScratch = true
is_of_pattern Operator = true
is_of_pattern OperatorAgain = true
is_of_pattern _ = false

-- which classes may stand at a position
abbrev pub admits : Position → Class → Bool
admits position.Top c = not (is_of_pattern c)
admits position.Value c = is_value_class c
admits position.Place c = is_place_class c
admits position.Clobbered Scratch = true
admits position.Clobbered c = is_place_class c
admits position.Source Call = true
admits position.Source c = is_value_class c
admits position.Pattern c = is_effect_class c
admits position.Pc Counter = true
admits position.Jump Label = true
admits position.Jump Branch = true
admits position.Test Comparison = true
admits position.Target Label = true
admits position.Callee Memory = true
admits position.Words Constant = true
admits position.Inner Register = true
admits _ _ = false

-- a mode has to be written
abbrev pub needed : Mode → Option Mode
needed Void = None
needed m = Some m

-- no mode may be written
abbrev pub unwanted : Mode → Option Mode
unwanted Void = Some Void
unwanted m = None

-- The mode of an expression by the mode that is written, Void standing for none.
abbrev pub mode_by : HeadMode → Mode → Option Mode
mode_by Needed m = needed m
mode_by Optional m = Some m
mode_by Ignored m = Some Void
mode_by Absent m = unwanted m

abbrev pub mode_of_class : Class → Mode → Option Mode
mode_of_class c m = mode_by (head_mode_of c) m

-- the memory that a call names is read in SImode, whatever its mode
abbrev pub mode_at : Position → Class → Mode → Option Mode
mode_at position.Callee c m = option_map (λ written. SI) (mode_of_class c m)
mode_at _ c m = mode_of_class c m

-- a lowpart is of any register but virtual-stack-vars
abbrev pub admits_register : Position → ℕ → Bool
admits_register position.Inner r = not (r == virtual_stack_vars)
admits_register _ r = true
