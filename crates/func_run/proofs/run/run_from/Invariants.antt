use Rattle.std.proofs.Common.{◌≡◌, ◌-◌}
use Rattle.func_run.specs.Run.{run}
use Rattle.func_run.proofs.run.run_from.Given as goal

abbrev pub invariant-loop-i : goal.invariant-loop-i
invariant-loop-i l = run l.world l.f (l.n - l._i) l.state ≡ run l.world l.f l.n l.initial.state
