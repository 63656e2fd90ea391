use Rattle.std.proofs.Common.{arith, ◌<◌, length}
use Rattle.lint_choices.specs.Changes as spec
use Rattle.lint_choices.proofs.FilledLaws.{filled_next}
use Rattle.lint_choices.proofs.changes.push_twos.Goals as goal

pub loop-second-preserved : goal.loop-second-preserved
loop-second-preserved c =
    let within : c.loop-second.second < length c.args.picked.now = omega arith in
    filled_next (spec.two_with c.args.picked.now) c.loop-second.second (length c.args.picked.now) c.loop-second.changes c.push_two_with.new.changes _ within c.in_ok-push_two_with.ensures c.loop-second.invariant
