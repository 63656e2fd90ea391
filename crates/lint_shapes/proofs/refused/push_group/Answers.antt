use Rattle.std.proofs.Common.{◌∙◌}
use Rattle.lint_shapes.proofs.FirstLaws.{group_told}
use Rattle.lint_shapes.proofs.refused.push_group.Goals as goal

pub returns : goal.returns
returns c =
    group_told c.args.description.now c.args.tested.now c.args.group c.as_slice.result.now c.in_ok-first.first c.args.told.now c.push_told.new.told
    (c.as_slice.ensures.value ∙ c.in_ok-tries.ensures) c.in_ok-first.ensures c.in_ok-push_told.ensures
