use Rattle.std.proofs.Common.{◌≡◌, [], drop}
use Rattle.lint_tried.specs.Tried as spec
use Rattle.lint_tried.specs.machine.Views.{trial_of}
use Rattle.lint_tried.proofs.trial.Trial.tried_behind.Given as goal

-- what comes of the rest from here is what comes of all
abbrev pub invariant-loop-change : goal.invariant-loop-change
invariant-loop-change l = spec.tried_behind (trial_of l.self) l.candidates l.picks l.tried (drop l.change-index l.changes) ≡ spec.tried_behind (trial_of l.self) l.candidates l.picks [] l.changes
