use Rattle.lint_choices.specs.Changes as spec
use Rattle.lint_choices.specs.declared.change.Change.TheVariants as change
use Rattle.lint_choices.proofs.FilledLaws.{searched_filled}
use Rattle.lint_choices.proofs.changes.changes_searched.Goals as goal

pub returns : goal.returns
returns c = searched_filled change.Itself _ _ (spec.ones c.args.picked.now) (spec.twos c.args.picked.now) c.in_ok-changes.ensures c.in_ok-push_twos.ensures
