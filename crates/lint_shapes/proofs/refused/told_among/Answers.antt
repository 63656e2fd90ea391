use Rattle.lint_shapes.proofs.FirstLaws.{told_on}
use Rattle.lint_shapes.proofs.refused.told_among.Goals as goal

pub loop-group-preserved : goal.loop-group-preserved
loop-group-preserved c =
    told_on c.args.description.now c.args.tested.now c.args.groups.now c.loop-group.group-index _ c.loop-group.told c.push_group.new.told
    c.loop-group-test.true c.in_ok-push_group.ensures c.loop-group.invariant
