-- What a call tells, and what it leaves in registers: GCC Internals, "Side Effect Expressions"
-- (`call`) and "Calls"; RISC-V ELF psABI, "Integer Calling Convention".
use Rattle.std.specs.Prelude.{ℕ, ◌%◌, ◌==◌, Bool, false, if◌then◌else◌, List, [], ◌∷◌, Option, Some, None, option_map, option_and_then}
use Rattle.std.specs.Int.{cast_unsigned, w64}
use Rattle.std.specs.FinMap.{insert}
use Rattle.bits64.specs.declared.Width.{Width}
use Rattle.bits64.specs.declared.Width.TheVariants.{W64}
use Rattle.rtx_tree.specs.declared.code.Code.{Code}
use Rattle.rtx_tree.specs.declared.code.Code.TheVariants.{Reg, Set, Call}
use Rattle.rtx_tree.specs.declared.function.ArgUse.{ArgUse}
use Rattle.rtx_tree.specs.declared.memories.MemByte.{MemByte}
use Rattle.rtx_tree.specs.declared.machine.SymbolAt.{SymbolAt}
use Rattle.rtx_tree.specs.declared.machine.RangeAt.{RangeAt}
use Rattle.rtx_tree.specs.declared.tree.Rtx.{Rtx, out-Rtx}
use Rattle.run_memory.specs.RunMemory.{visible}
use Rattle.rtl_step.specs.Regs.{Regs, known_of, reg_value, preserved}
use Rattle.rtl_step.specs.Value.{width_of, of_two, value_of}
use Rattle.rtl_step.specs.Effect.{address_of}
use Rattle.rtl_step.specs.declared.call.ArgValue.{ArgValue}
use Rattle.rtl_step.specs.declared.call.CallEvent.{CallEvent}

-- the target's address as an expression: (call (mem TARGET) SIZE)
abbrev pub target_by : Code → List Rtx → Option Rtx
target_by Call (place ∷ size ∷ []) = address_of place
target_by _ parts = None

abbrev pub target_of : Rtx → Option Rtx
target_of x = target_by (out-Rtx x).code (out-Rtx x).kids

-- the register of a result, a0
abbrev pub result_register : ℕ
result_register = 10

abbrev pub is_result_by : Code → ℕ → Bool
is_result_by Reg number = number == result_register
is_result_by _ number = false

abbrev pub is_result : Rtx → Bool
is_result x = is_result_by (out-Rtx x).code (cast_unsigned w64 (out-Rtx x).number)

-- the call's own expression: SOURCE of (set (reg:M a0) SOURCE), or all of it
abbrev pub call_by : Code → List Rtx → Rtx → Rtx
call_by Set (place ∷ source ∷ []) x = if is_result place then source else x
call_by _ parts x = x

abbrev pub call_part : Rtx → Rtx
call_part x = call_by (out-Rtx x).code (out-Rtx x).kids x

-- the width in which a0 is known after a call: that of M in (set (reg:M a0) CALL), and 64 bits
-- after a call alone
abbrev pub result_width_by : Code → List Rtx → Option Width
result_width_by Set (place ∷ source ∷ []) = width_of (out-Rtx place).mode
result_width_by _ parts = Some W64

abbrev pub result_width : Rtx → Option Width
result_width x = result_width_by (out-Rtx x).code (out-Rtx x).kids

-- an argument's value in its mode
abbrev pub arg_of : Regs → ArgUse → Option ArgValue
arg_of regs arg = option_map (λ value. record { reg = arg.reg; mode = arg.mode; value = value }) (option_and_then (reg_value regs arg.reg) (width_of arg.mode))

abbrev pub args_of : Regs → List ArgUse → Option (List ArgValue)
args_of regs [] = Some []
args_of regs (arg ∷ uses) = option_and_then (λ value. option_map (λ args. value ∷ args) (args_of regs uses)) (arg_of regs arg)

-- the address of a call's target, a multiple of 4
abbrev pub aligned_target : ℕ → Option ℕ
aligned_target at = if at % 4 == 0 then Some at else None

-- the target's address
abbrev pub target_value : List SymbolAt → Regs → List MemByte → Rtx → Option ℕ
target_value symbols regs memory x = option_and_then (λ target. option_and_then aligned_target (value_of symbols regs memory target W64)) (target_of (call_part x))

-- what a called function sees: its address, its arguments, and the visible memory
abbrev pub event_of : List SymbolAt → Regs → List MemByte → List RangeAt → Rtx → List ArgUse →
    Option CallEvent
event_of symbols regs memory ranges x uses =
    of_two (λ target args. Some (record { target = target; args = args; memory = visible ranges memory })) (target_value symbols regs memory x) (args_of regs uses)

-- the registers after a reply: a0 holds its value, and every other call-used register is unset
abbrev pub regs_replied : Regs → Width → ℕ → Regs
regs_replied regs w value = insert (preserved regs) result_register (known_of w value)
