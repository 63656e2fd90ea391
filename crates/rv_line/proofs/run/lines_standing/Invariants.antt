-- The lines that are left, with what called functions see and as many calls, come to what all come to.
use Rattle.std.proofs.Common.{◌-◌}
use Rattle.rv_line.specs.Run.{run}
use Rattle.rv_line.specs.machine.Turns.{running_view}
use Rattle.rv_line.proofs.Stands.{Stands}
use Rattle.rv_line.proofs.run.lines_standing.Given as goal

abbrev pub invariant-loop : goal.invariant-loop
invariant-loop l = Stands l.world l.start.visible l.lines (l.k - l.counter) (running_view l.state) (run l.lines l.start l.world l.k)
