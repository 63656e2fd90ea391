use Rattle.std.proofs.Common.{arith, ◌<◌}
use Rattle.lint_choices.specs.Changes as spec
use Rattle.lint_choices.proofs.FilledLaws.{filled_next}
use Rattle.lint_choices.proofs.changes.push_two_with.Goals as goal

pub loop-first-preserved : goal.loop-first-preserved
loop-first-preserved c =
    let within : c.loop-first.first < c.args.second = omega arith in
    filled_next (spec.two_for c.args.picked.now c.args.second) c.loop-first.first (c.args.second) c.loop-first.changes c.push_two_for.new.changes _ within c.in_ok-push_two_for.ensures c.loop-first.invariant
