-- What a line does: RISC-V unprivileged manual, "RV32I Base Integer Instruction Set", "RV64I Base
-- Integer Instruction Set" and "'M' Standard Extension for Integer Multiplication and Division".
-- Here a register may also be unset: what a caller or a called function leaves in it is not known.
-- A line that reads such a register is stuck, and so is one whose access to memory has no value,
-- and one that names a symbol without an address.
use Rattle.std.specs.Prelude.{ℕ, ◌%◌, ◌==◌, Bool, true, false, if◌then◌else◌, List, Option, Some, None, option_map, option_and_then, slice_get, slice_set}
use Rattle.std.specs.Int.{cast_unsigned, w64}
use Rattle.bits64.specs.Words.{sign_extended, zero_extended, sum_of}
use Rattle.bits64.specs.Operators.{number, holds}
use Rattle.bits64.specs.declared.operator.Operator.{Operator}
use Rattle.bits64.specs.declared.Width.{Width}
use Rattle.bits64.specs.declared.Width.TheVariants.{W64}
use Rattle.rtx_tree.specs.declared.machine.World.{World}
use Rattle.rtx_tree.specs.declared.memories.MemByte.{MemByte}
use Rattle.run_memory.specs.Symbols.{symbol_address}
use Rattle.run_memory.specs.RunMemory.{load, store}
use Rattle.rv_text.specs.Lines.{action_of}
use Rattle.rv_text.specs.declared.line.Line.{Line}
use Rattle.rv_text.specs.declared.action.Action.{Action}
use Rattle.rv_text.specs.declared.action.Action.TheVariants.{Compute, Load, Store, SymbolAddress, Branch, Jump, Call, CallRegister, Return}
use Rattle.rv_text.specs.declared.action.Source.{Source}
use Rattle.rv_text.specs.declared.action.Source.TheVariants.{First, Second, ReturnAddress, Immediate, Constant}
use Rattle.rv_text.specs.declared.action.Extension.{Extension}
use Rattle.rv_text.specs.declared.action.Extension.TheVariants.{Sign, Zero}
use Rattle.rv_line.specs.declared.state.RvState.{RvState}
use Rattle.rv_line.specs.declared.state.LineEnd.{LineEnd}
use Rattle.rv_line.specs.declared.state.LineEnd.TheVariants as ends

-- ---- registers ("Programmers' Model for Base Integer ISA")

-- what a register holds, if it is set; x0 is hardwired to 0
abbrev pub register : List (Option ℕ) → ℕ → Option ℕ
register regs reg =
    if reg == 0 then Some 0 else option_and_then (λ value. value) (slice_get regs reg)

-- the registers with a number written to one; a write to x0 is dropped
abbrev pub with_register : List (Option ℕ) → ℕ → ℕ → List (Option ℕ)
with_register regs reg value = if reg == 0 then regs else slice_set regs reg (Some value)

-- the number that a line reads, if it is there; an immediate is sign-extended
abbrev pub source_value : RvState → Line → Source → Option ℕ
source_value state line First = register state.regs line.rs
source_value state line Second = register state.regs line.rt
source_value state line ReturnAddress = register state.regs 1
source_value state line Immediate = Some (cast_unsigned w64 line.imm)
source_value state line (Constant number) = Some (cast_unsigned w64 number)

-- what a function gives of two numbers, or none where one is missing
abbrev pub of_both : {X : Type 0} → (ℕ → ℕ → X) → Option ℕ → Option ℕ → Option X
of_both f left right = option_and_then (λ a. option_map (f a) right) left

-- ---- operators ("Integer Register-Register Operations", "Integer Register-Immediate Instructions"; "Multiplication Operations", "Division
-- Operations")

-- what is written: the instructions on 32 bits sign-extend their result to 64
abbrev pub computed : Operator → Width → ℕ → ℕ → ℕ
computed o w a b = sign_extended w (number o w a b)

-- ---- memory ("Load and Store Instructions") and symbols

-- the effective address: rs1 plus the sign-extended offset
abbrev pub place_of : RvState → Line → Option ℕ
place_of state line =
    option_map (λ base. sum_of W64 base (cast_unsigned w64 line.imm)) (register state.regs line.rs)

-- a loaded number in 64 bits
abbrev pub extended : Extension → Width → ℕ → ℕ
extended Sign w a = sign_extended w a
extended Zero w a = zero_extended w a

abbrev pub loaded : Width → Extension → RvState → Line → Option ℕ
loaded w extension state line = option_and_then (λ address. option_map (extended extension w) (load w state.memory address)) (place_of state line)

-- ---- the step

-- the state with a number in rd, then the next line; stuck where there is no number
abbrev pub set_rd : RvState → Line → Option ℕ → LineEnd × RvState
set_rd state line None = (ends.Stuck, state)
set_rd state line (Some value) =
    (ends.Next, record state { regs = with_register state.regs line.rd value })

-- the state with another memory, then the next line; stuck where there is none
abbrev pub set_memory : RvState → Option (List MemByte) → LineEnd × RvState
set_memory state None = (ends.Stuck, state)
set_memory state (Some memory) = (ends.Next, record state { memory = memory })

-- the memory after a store of rt
abbrev pub stored : Width → RvState → Line → Option (List MemByte)
stored w state line = option_and_then (λ memory. memory) (of_both (store w state.memory) (place_of state line) (register state.regs line.rt))

-- jumps where the comparison holds
abbrev pub branch_end : Option Bool → LineEnd
branch_end None = ends.Stuck
branch_end (Some true) = ends.Jumped
branch_end (Some false) = ends.Next

-- calls an address
abbrev pub call_end : Option ℕ → LineEnd
call_end None = ends.Stuck
call_end (Some target) = ends.Called target

-- calls an address in a register, which has to be a multiple of 4 ("Unconditional Jump
-- Instructions": else an exception is raised)
abbrev pub register_call_end : Option ℕ → LineEnd
register_call_end None = ends.Stuck
register_call_end (Some target) = if target % 4 == 0 then ends.Called target else ends.Stuck

-- returns to where the function was called from; no other jump through a register is one of a
-- function's
abbrev pub return_end : ℕ → Option ℕ → LineEnd
return_end entry_ra None = ends.Stuck
return_end entry_ra (Some target) = if target == entry_ra then ends.Returned else ends.Stuck

abbrev pub act : Action → World → Line → RvState → LineEnd × RvState
act (Compute o w left right) world line state = set_rd state line (of_both (computed o w) (source_value state line left) (source_value state line right))
act (Load w extension) world line state = set_rd state line (loaded w extension state line)
act (Store w) world line state = set_memory state (stored w state line)
act SymbolAddress world line state = set_rd state line (symbol_address world.symbols line.target)
-- "Conditional Branches": two registers are compared
act (Branch r left right) world line state = (branch_end (of_both (holds r W64) (source_value state line left) (source_value state line right)), state)
act Jump world line state = (ends.Jumped, state)
act Call world line state = (call_end (symbol_address world.symbols line.target), state)
act CallRegister world line state = (register_call_end (register state.regs line.rs), state)
act (Return through) world line state =
    (return_end state.entry_ra (source_value state line through), state)

-- what is no line of the table is stuck
abbrev pub step_as : Option Action → World → Line → RvState → LineEnd × RvState
step_as None world line state = (ends.Stuck, state)
step_as (Some action) world line state = act action world line state

-- one line: how it ends, and the state after it
abbrev pub step : World → Line → RvState → LineEnd × RvState
step world line state = step_as (action_of line) world line state
