use Rattle.std.proofs.Common.{arith, ◌<◌}
use Rattle.lint_choices.specs.Changes as spec
use Rattle.lint_choices.proofs.FilledLaws.{filled_next}
use Rattle.lint_choices.proofs.changes.push_shares.Goals as goal

pub loop-second-preserved : goal.loop-second-preserved
loop-second-preserved c =
    let within : c.loop-second.second < c.args.operands = omega arith in
    filled_next (spec.shared_with) c.loop-second.second (c.args.operands) c.loop-second.changes c.push_shared_with.new.changes _ within c.in_ok-push_shared_with.ensures c.loop-second.invariant
