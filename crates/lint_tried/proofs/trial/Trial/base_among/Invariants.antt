use Rattle.std.proofs.Common.{◌≡◌, drop}
use Rattle.lint_tried.specs.Tried as spec
use Rattle.lint_tried.specs.machine.Views.{trial_of}
use Rattle.lint_tried.proofs.trial.Trial.base_among.Given as goal

-- what is left has the answer
abbrev pub invariant-loop-change : goal.invariant-loop-change
invariant-loop-change l = spec.base_among (trial_of l.self) l.candidates l.picks (drop l.change-index l.changes) ≡ spec.base_among (trial_of l.self) l.candidates l.picks l.changes
