-- The lines that are left come to what all come to.
use Rattle.std.proofs.Common.{◌≡◌, drop}
use Rattle.sym_state.specs.Views.{state_of}
use Rattle.sym_lines.specs.Run.{run_from}
use Rattle.sym_lines.proofs.run.run_on.Given as goal

abbrev pub invariant-loop-at : goal.invariant-loop-at
invariant-loop-at l = run_from l.function l.at (drop l.at l.lines) (state_of l.state) ≡ run_from l.function 0 l.lines (state_of l.initial.state)
