use Rattle.std.proofs.Common.{◌≡◌, ◌++◌, drop}
use Rattle.lint_tried.specs.Instance as spec
use Rattle.lint_tried.specs.machine.Views.{trial_of}
use Rattle.lint_tried.proofs.trial.Trial.registers.Given as goal

abbrev pub invariant-loop-at : goal.invariant-loop-at
invariant-loop-at l = l.owns ++ spec.registers_from (trial_of l.self) l.candidates l.picks l.at (drop l.at l.givers) ≡ spec.registers_from (trial_of l.self) l.candidates l.picks 0 l.givers
