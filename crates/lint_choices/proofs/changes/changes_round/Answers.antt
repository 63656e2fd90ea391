use Rattle.std.proofs.Common.{length}
use Rattle.lint_choices.specs.Changes as spec
use Rattle.lint_choices.specs.declared.change.Change.TheVariants as change
use Rattle.lint_choices.proofs.FilledLaws.{round_filled}
use Rattle.lint_choices.proofs.changes.changes_round.Goals as goal

pub returns : goal.returns
returns c = round_filled change.Itself change.Every _ _ _ (spec.ones c.args.picked.now) (spec.shares (length c.args.picked.now)) (spec.twos c.args.picked.now) c.in_ok-changes.ensures c.in_ok-push_all_shares.ensures c.in_ok-push_twos.ensures
