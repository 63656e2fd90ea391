use Rattle.std.proofs.Common.{◌≡◌, ◌++◌, drop}
use Rattle.std.specs.List.{flat_map}
use Rattle.lint_tried.specs.Numbers as spec
use Rattle.lint_tried.proofs.numbers.tested_numbers.Given as goal

abbrev pub invariant-loop-entry : goal.invariant-loop-entry
invariant-loop-entry l = l.numbers ++ flat_map spec.tested_in (drop l.entry-index l.forms) ≡ spec.tested_numbers l.forms
