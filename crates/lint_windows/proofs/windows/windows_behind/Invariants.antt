use Rattle.std.proofs.Common.{◌≡◌, [], drop}
use Rattle.lint_windows.specs.Windows as spec
use Rattle.lint_tried.specs.machine.Views.{trial_of}
use Rattle.lint_windows.proofs.windows.windows_behind.Given as goal

-- what comes of the rest from here is what comes of all
abbrev pub invariant-loop-change : goal.invariant-loop-change
invariant-loop-change l = spec.windows_behind (trial_of l.trial) l.candidates l.picks l.windows (drop l.change-index l.changes) ≡ spec.windows_behind (trial_of l.trial) l.candidates l.picks [] l.changes
