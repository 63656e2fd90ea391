use Rattle.std.proofs.Common.{ap}
use Rattle.std.specs.List.{list_all}
use Rattle.md_desc.specs.md_recog.Match.{is_accepted}
use Rattle.lint_tried.proofs.trial.Trial.all_accepted.Goals as goal

-- the table of predicates accepts what they hold of
pub loop-giver-init : goal.loop-giver-init
loop-giver-init c = ap (λ f. list_all (is_accepted f c.args.operands.now) c.args.givers.now) c.preds-preds.ensures
