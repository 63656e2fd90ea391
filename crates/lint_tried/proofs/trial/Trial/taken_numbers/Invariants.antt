use Rattle.std.proofs.Common.{◌≡◌, ◌++◌, drop, map}
use Rattle.lint_tried.specs.Offered as spec
use Rattle.lint_tried.specs.machine.Views.{trial_of}
use Rattle.lint_tried.proofs.trial.Trial.taken_numbers.Given as goal

abbrev pub invariant-loop-number : goal.invariant-loop-number
invariant-loop-number l = l.taken ++ map (spec.takes_number (trial_of l.self) l.placeholder) (drop l.number-index l.numbers) ≡ map (spec.takes_number (trial_of l.self) l.placeholder) l.numbers
