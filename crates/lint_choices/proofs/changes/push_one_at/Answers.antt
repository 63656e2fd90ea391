use Rattle.std.proofs.Common.{arith, ◌<◌}
use Rattle.lint_choices.specs.Changes as spec
use Rattle.lint_choices.proofs.FilledLaws.{filled_next}
use Rattle.lint_choices.proofs.changes.push_one_at.Goals as goal

pub loop-candidate-preserved : goal.loop-candidate-preserved
loop-candidate-preserved c =
    let within : c.loop-candidate.candidate < spec.count_at c.args.picked.now c.args.operand = omega arith in
    filled_next (spec.one_by c.args.picked.now c.args.operand) c.loop-candidate.candidate (spec.count_at c.args.picked.now c.args.operand) c.loop-candidate.changes c.push_one.new.changes _ within c.in_ok-push_one.ensures c.loop-candidate.invariant
