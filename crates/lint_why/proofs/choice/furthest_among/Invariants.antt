use Rattle.std.proofs.Common.{◌≡◌, drop}
use Rattle.lint_tried.specs.machine.Views.{trial_of}
use Rattle.lint_why.specs.declared.choice.Stage.TheVariants as stage
use Rattle.lint_why.specs.Choices.{furthest_among}
use Rattle.lint_why.proofs.choice.furthest_among.Given as goal

abbrev pub invariant-loop-change : goal.invariant-loop-change
invariant-loop-change l = furthest_among (trial_of l.trial) l.candidates l.picks l.best (drop l.change-index l.changes) ≡ furthest_among (trial_of l.trial) l.candidates l.picks stage.Unmade l.changes
