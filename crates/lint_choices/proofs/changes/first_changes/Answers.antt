use Rattle.lint_choices.specs.Changes as spec
use Rattle.lint_choices.specs.declared.change.Change.TheVariants as change
use Rattle.lint_choices.proofs.FilledLaws.{filled_itself}
use Rattle.lint_choices.proofs.changes.first_changes.Goals as goal

pub returns : goal.returns
returns c = filled_itself change.Itself _ _ _ (spec.ones c.args.picked.now) c.new-changes.ensures c.in_ok-push.ensures c.in_ok-push_ones.ensures
