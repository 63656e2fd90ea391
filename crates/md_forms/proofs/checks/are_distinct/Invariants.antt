use Rattle.std.proofs.Common.{◌≡◌, drop}
use Rattle.md_forms.specs.Checks as spec
use Rattle.md_forms.proofs.checks.are_distinct.Given as goal

abbrev pub invariant-loop-at : goal.invariant-loop-at
invariant-loop-at l = spec.are_distinct (drop l.at l.numbers) ≡ spec.are_distinct l.numbers
