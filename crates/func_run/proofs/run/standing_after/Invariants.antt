-- What is left to run from the state, with what the caller sees and with as many calls, is all of it.
use Rattle.std.proofs.Common.{◌-◌}
use Rattle.func_run.specs.Run.{run_of}
use Rattle.func_run.proofs.Stands.{Stands}
use Rattle.func_run.proofs.run.standing_after.Given as goal

abbrev pub invariant-loop-i : goal.invariant-loop-i
invariant-loop-i l = Stands l.world l.f l.start.visible (l.n - l._i) l.state (run_of l.f l.start l.world l.n)
