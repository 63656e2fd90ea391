-- How lines end, by the symbolic state behind them (RISC-V unprivileged manual, "Unconditional Jump
-- Instructions", "Conditional Branches"; RISC-V ELF psABI, "Integer Register Convention").
use Rattle.std.specs.Prelude.{◌≡◌, ◌≢◌, ℕ, List, length, Option, Some, None}
use Rattle.rtx_tree.specs.declared.machine.World.{World}
use Rattle.rv_text.specs.declared.line.Line.{Line}
use Rattle.rv_line.specs.declared.state.RvState.{RvState}
use Rattle.law_insn_terms.specs.law_window_runs.Beside.{reads}
use Rattle.law_insn_terms.specs.law_window_runs.Lines.{Falls, Goes, Calls, LinesCome, lines_come}
use Rattle.term_mean.specs.Meaning.{Valuation, mean}
use Rattle.sym_lines.specs.sym_state.State as sym
use Rattle.sym_lines.specs.sym_state.State.{State, Call}
use Rattle.sym_lines.specs.sym_state.Registers.{left_by_call}
use Rattle.sym_lines.specs.Step.{args_from}
use Rattle.sym_lines.specs.Run.{label_uid}
use Rattle.law_insn_terms.specs.Needs.{First}
use Rattle.law_insn_terms.specs.Shows.{IsOf, ShowsMemory}
use Rattle.law_line_terms.specs.ShowsLine.{IsFirst, ShowsLine}

-- Lines of a function fall through, or go to a text that stands for the label, or call the function
-- at an address. At a call the machine is the one before the reply, with a0 to a7 as they are
-- handed over.
pub data EndsLines (v : Valuation) (f : First) (first : List (Option ℕ)) (function : ℕ) (s : State) (done : LinesCome) : Type 0 where
  falls : s.call ≡ None → mean v s.jump.condition ≡ 0 → ShowsLine v f first s done.machine →
      done.ending ≡ Falls →
      EndsLines v f first function s done
  goes : (text : List ℕ) → s.call ≡ None → mean v s.jump.condition ≢ 0 →
      ShowsLine v f first s done.machine →
      label_uid function text ≡ s.jump.target → done.ending ≡ Goes text → EndsLines v f first function s done
  calls : (call : Call) (before : State) → s.call ≡ Some call → s.jump ≡ sym.falls →
      s.stores ≡ before.stores →
      s.regs ≡ left_by_call before.regs → ShowsLine v f first before done.machine →
      done.ending ≡ Calls (mean v call.target) → call.args ≡ args_from 8 10 before.regs →
      EndsLines v f first function s done

-- what there is on a machine before the first line
abbrev pub first_on : World → RvState → First
first_on world m = record { symbols = world.symbols; reads = reads m.regs; memory = m.memory }

-- what lines are run from: registers, symbols and memory are those of a valuation
pub record IsBefore (v : Valuation) (f : First) (world : World) (m : RvState) : Type 0 where
  pub of : IsOf v f
  pub first : IsFirst v f m.regs
  pub symbols_are : f.symbols ≡ world.symbols
  pub long : length m.regs ≡ 32
  pub memory_is : ShowsMemory v f m.memory 0

-- the lines come to where their symbolic state says
pub record LinesRun (v : Valuation) (f : First) (first : List (Option ℕ)) (world : World) (function : ℕ) (lines : List Line)
    (s : State) (m : RvState) : Type 0 where
  pub done : LinesCome
  pub comes : lines_come world lines m ≡ Some done
  pub ends : EndsLines v f first function s done
  pub entry_is : done.machine.entry_ra ≡ m.entry_ra
