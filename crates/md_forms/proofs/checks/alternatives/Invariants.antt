use Rattle.std.proofs.Common.{◌≡◌, drop}
use Rattle.md_forms.specs.Checks as spec
use Rattle.md_forms.proofs.checks.alternatives.Given as goal

abbrev pub invariant-loop-constraint : goal.invariant-loop-constraint
invariant-loop-constraint l = spec.alternatives (drop l.constraint-index l.constraints) ≡ spec.alternatives l.constraints
