-- The lines that are left come to what all come to.
use Rattle.std.proofs.Common.{◌≡◌, ◌-◌}
use Rattle.rv_line.specs.Run.{run, run_from}
use Rattle.rv_line.specs.machine.Turns.{running_view}
use Rattle.rv_line.proofs.run.run_lines.Given as goal

abbrev pub invariant-loop : goal.invariant-loop
invariant-loop l = run_from l.world l.start.visible l.lines (l.k - l.counter) (running_view l.state) ≡ run l.lines l.start l.world l.k
