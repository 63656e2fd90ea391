use Rattle.std.proofs.Common.{arith, ◌<◌, length}
use Rattle.lint_choices.specs.Changes as spec
use Rattle.lint_choices.proofs.FilledLaws.{filled_next}
use Rattle.lint_choices.proofs.changes.push_ones.Goals as goal

pub loop-operand-preserved : goal.loop-operand-preserved
loop-operand-preserved c =
    let within : c.loop-operand.operand < length c.args.picked.now = omega arith in
    filled_next (spec.one_at c.args.picked.now) c.loop-operand.operand (length c.args.picked.now) c.loop-operand.changes c.push_one_at.new.changes _ within c.in_ok-push_one_at.ensures c.loop-operand.invariant
