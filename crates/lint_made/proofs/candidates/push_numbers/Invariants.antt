use Rattle.std.proofs.Common.{◌≡◌, ◌++◌, drop}
use Rattle.std.specs.List.{flat_map}
use Rattle.lint_made.specs.Candidates as spec
use Rattle.lint_made.proofs.candidates.push_numbers.Given as goal

abbrev pub invariant-loop-number : goal.invariant-loop-number
invariant-loop-number l = l.out ++ flat_map spec.number_in (drop l.number-index l.numbers) ≡ l.fn.out ++ flat_map spec.number_in l.numbers
