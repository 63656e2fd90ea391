use Rattle.std.proofs.Common.{arith, ◌<◌}
use Rattle.lint_choices.specs.Changes as spec
use Rattle.lint_choices.proofs.FilledLaws.{filled_next}
use Rattle.lint_choices.proofs.changes.push_each_two.Goals as goal

pub loop-other-preserved : goal.loop-other-preserved
loop-other-preserved c =
    let within : c.loop-other.other < spec.count_at c.args.picked.now c.args.pair.second = omega arith in
    filled_next (spec.two_by c.args.picked.now c.args.pair.second c.args.pair.first c.args.pair.candidate) c.loop-other.other (spec.count_at c.args.picked.now c.args.pair.second) c.loop-other.changes c.push_two.new.changes _ within c.in_ok-push_two.ensures c.loop-other.invariant
