use Rattle.std.proofs.Common.{arith, ◌<◌}
use Rattle.lint_choices.specs.Changes as spec
use Rattle.lint_choices.proofs.FilledLaws.{filled_next}
use Rattle.lint_choices.proofs.changes.push_two_for.Goals as goal

pub loop-candidate-preserved : goal.loop-candidate-preserved
loop-candidate-preserved c =
    let within : c.loop-candidate.candidate < spec.count_at c.args.picked.now c.args.first = omega arith in
    filled_next (spec.two_at c.args.picked.now c.args.second c.args.first) c.loop-candidate.candidate (spec.count_at c.args.picked.now c.args.first) c.loop-candidate.changes c.push_two_at.new.changes _ within c.in_ok-push_two_at.ensures c.loop-candidate.invariant
