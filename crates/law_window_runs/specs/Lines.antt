-- What a window of lines does to a machine, and how it ends: RISC-V unprivileged manual, "RV32I
-- Base Integer Instruction Set" and its like. It has no meaning where a line is stuck.
use Rattle.std.specs.Prelude.{ℕ, List, [], ◌∷◌, Option, Some, None}
use Rattle.rtx_tree.specs.declared.machine.World.{World}
use Rattle.same_behaviour.specs.rv_text.declared.line.Line.{Line}
use Rattle.same_behaviour.specs.rv_line.Step.{step}
use Rattle.same_behaviour.specs.rv_line.declared.state.RvState.{RvState}
use Rattle.same_behaviour.specs.rv_line.declared.state.LineEnd.{LineEnd}
use Rattle.same_behaviour.specs.rv_line.declared.state.LineEnd.TheVariants as ends

-- a window of lines falls through to what follows, goes to a label with a text, calls the function
-- at an address, or returns
pub data LinesEnd : Type 0 where
  Falls : LinesEnd
  Goes : List ℕ → LinesEnd
  Calls : ℕ → LinesEnd
  Returns : LinesEnd

-- what there is where it ends; at a call, before the reply
pub record LinesCome : Type 0 where
  pub machine : RvState
  pub ending : LinesEnd

abbrev pub come_to : RvState → LinesEnd → LinesCome
come_to machine ending = record { machine = machine; ending = ending }

abbrev pub line_goes_on : LineEnd → Line → RvState → (RvState → Option LinesCome) → Option LinesCome
line_goes_on ends.Next line m rest = rest m
line_goes_on ends.Jumped line m rest = Some (come_to m (Goes line.target))
line_goes_on (ends.Called target) line m rest = Some (come_to m (Calls target))
line_goes_on ends.Returned line m rest = Some (come_to m Returns)
line_goes_on ends.Stuck line m rest = None

-- each goes on where the one before it does
abbrev pub lines_come : World → List Line → RvState → Option LinesCome
lines_come world [] m = Some (come_to m Falls)
lines_come world (line ∷ lines) m =
    let done = step world line m in line_goes_on done.0 line done.1 (lines_come world lines)
