use Rattle.std.proofs.Common.{◌≡◌, ◌++◌, drop, filter}
use Rattle.lint_tried.specs.Offered as spec
use Rattle.lint_tried.specs.machine.Views.{trial_of}
use Rattle.lint_tried.proofs.trial.Trial.taken_among.Given as goal

abbrev pub invariant-loop-candidate : goal.invariant-loop-candidate
invariant-loop-candidate l = l.taken ++ filter (spec.is_taken (trial_of l.self) l.placeholder) (drop l.candidate-index l.could) ≡ filter (spec.is_taken (trial_of l.self) l.placeholder) l.could
