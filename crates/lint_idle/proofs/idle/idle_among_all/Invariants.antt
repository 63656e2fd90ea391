use Rattle.std.proofs.Common.{◌≡◌, ◌++◌, drop}
use Rattle.std.specs.List.{flat_map}
use Rattle.lint_idle.specs.Idle.{idle_in}
use Rattle.lint_idle.proofs.idle.idle_among_all.Given as goal

abbrev pub invariant-loop-constraint : goal.invariant-loop-constraint
invariant-loop-constraint l = l.out ++ flat_map (idle_in l.description l.tried l.alternative) (drop l.constraint-index l.constraints) ≡ flat_map (idle_in l.description l.tried l.alternative) l.constraints
