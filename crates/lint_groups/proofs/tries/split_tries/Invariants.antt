use Rattle.std.proofs.Common.{◌≡◌, ◌++◌, drop}
use Rattle.std.specs.List.{flat_map}
use Rattle.lint_groups.specs.Groups as spec
use Rattle.lint_groups.proofs.tries.split_tries.Given as goal

abbrev pub invariant-loop-instance : goal.invariant-loop-instance
invariant-loop-instance l = l.tries ++ flat_map spec.split_try (drop l.instance-index l.instances) ≡ flat_map spec.split_try l.instances
