-- When lines do what a window of instructions does, over the registers that are live behind it.
-- From machines that stand beside each other, wherever the instructions have a meaning, so have the
-- lines; they go the same way; the machines still stand beside each other; and of what is live as
-- much is known. What the instructions leave alone and no call changes keeps its number, and so
-- does ra.
use Rattle.std.specs.Prelude.{◌≡◌, ℕ, true, false, List, Some}
use Rattle.bits64.specs.declared.Width.{Width}
use Rattle.rtx_tree.specs.Registers.{is_call_used}
use Rattle.rtx_tree.specs.declared.function.Insn.{Insn}
use Rattle.rtx_tree.specs.declared.machine.RangeAt.{RangeAt}
use Rattle.rtx_tree.specs.declared.machine.World.{World}
use Rattle.rtx_tree.specs.declared.memories.MemByte.{MemByte}
use Rattle.same_behaviour.specs.rtl_step.Regs.{Regs}
use Rattle.same_behaviour.specs.rtl_step.declared.call.CallEvent.{CallEvent}
use Rattle.same_behaviour.specs.rv_line.Run.{call_of}
use Rattle.same_behaviour.specs.rv_line.Step.{register}
use Rattle.same_behaviour.specs.rv_line.declared.state.RvState.{RvState}
use Rattle.same_behaviour.specs.rv_text.Body.{label_text}
use Rattle.same_behaviour.specs.rv_text.declared.line.Line.{Line}
use Rattle.same_behaviour.specs.Ending.{IsUid}
use Rattle.same_behaviour.specs.Lawful.{AreAddresses}
use Rattle.same_behaviour.specs.Same.{SameCall}
use Rattle.law_window_runs.specs.Insns as insns
use Rattle.law_window_runs.specs.Insns.{InsnsEnd, InsnsCome, insns_come}
use Rattle.law_window_runs.specs.Lines as lines
use Rattle.law_window_runs.specs.Lines.{LinesEnd, LinesCome, lines_come}
use Rattle.law_window_runs.specs.Uses.{window_uses, window_defines}
use Rattle.law_window_runs.specs.Beside.{Agrees, Beside}

-- both fall through, go to the same label of a function, or make the same call
pub data SameEnd (number : ℕ) (ranges : List RangeAt) (m : RvState) : InsnsEnd → LinesEnd → Type 0 where
  falls : SameEnd number ranges m insns.Falls lines.Falls
  goes : (uid : ℕ) → IsUid uid →
      SameEnd number ranges m (insns.Goes uid) (lines.Goes (label_text number uid))
  calls : (event : CallEvent) (w : Width) (target : ℕ) → SameCall event (call_of ranges target m) →
      SameEnd number ranges m (insns.Calls event w) (lines.Calls target)

-- behind a call, the registers that it may change are those of its reply
abbrev pub IsKept : InsnsEnd → ℕ → Type 0
IsKept (insns.Calls event w) reg = is_call_used reg ≡ false
IsKept _ reg = Unit {0}

-- what the lines come to, beside what the instructions come to
pub record LinesDo (number : ℕ) (insns : List Insn) (lines : List Line) (Live : ℕ → Type 0) (world : World)
    (ranges : List RangeAt) (m : RvState) (came : InsnsCome) : Type 0 where
  pub done : LinesCome
  pub comes : lines_come world lines m ≡ Some done
  pub same_end : SameEnd number ranges done.machine came.ending done.ending
  pub beside : Beside ranges came.memory done.machine
  pub agree : (reg : ℕ) → Live reg → IsKept came.ending reg → Agrees came.regs done.machine.regs reg
  pub kept : (reg : ℕ) → window_defines insns reg ≡ false → is_call_used reg ≡ false →
      register done.machine.regs reg ≡ register m.regs reg
  pub return_address : window_defines insns 1 ≡ false →
      register done.machine.regs 1 ≡ register m.regs 1
  pub entry_is : done.machine.entry_ra ≡ m.entry_ra

-- two machines from which instructions and lines start
pub record Starts (insns : List Insn) (Live : ℕ → Type 0) (world : World) (ranges : List RangeAt) (regs : Regs)
    (memory : List MemByte) (m : RvState) : Type 0 where
  pub symbols : AreAddresses world.symbols
  pub beside : Beside ranges memory m
  pub used : (reg : ℕ) → window_uses insns reg ≡ true → Agrees regs m.regs reg
  pub passed : (reg : ℕ) → Live reg → window_defines insns reg ≡ false → Agrees regs m.regs reg

-- the lines of a function that has a number do what the instructions do
abbrev pub DoSame : ℕ → List Insn → List Line → (ℕ → Type 0) → Type 0
DoSame number insns lines Live =
    (world : World) (ranges : List RangeAt) (regs : Regs) (memory : List MemByte) (m : RvState) (came : InsnsCome) →
    Starts insns Live world ranges regs memory m → insns_come world.symbols ranges insns regs memory ≡ Some came →
    LinesDo number insns lines Live world ranges m came
