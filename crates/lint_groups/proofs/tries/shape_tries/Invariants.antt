use Rattle.std.proofs.Common.{◌≡◌, ◌++◌, map, drop}
use Rattle.lint_groups.specs.Groups as spec
use Rattle.lint_groups.proofs.tries.shape_tries.Given as goal

abbrev pub invariant-loop-pattern : goal.invariant-loop-pattern
invariant-loop-pattern l = l.tries ++ map (spec.shape_try l.shape) (drop l.pattern-index l.patterns) ≡ map (spec.shape_try l.shape) l.patterns
