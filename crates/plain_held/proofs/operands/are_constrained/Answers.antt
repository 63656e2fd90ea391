use Rattle.std.proofs.Common.{arith}
use Rattle.plain_held.specs.Rows.{constrained_of}
use Rattle.plain_held.proofs.Same.{one_more}
use Rattle.plain_held.proofs.operands.are_constrained.Goals as goal

pub loop-i-preserved : goal.loop-i-preserved
loop-i-preserved c =
    one_more (constrained_of c.args.names.now) c.args.operands.now c.args.wanted.now c.loop-i.i c.index-operands-i.result _ c.loop-i.invariant (omega arith) (omega arith) c.index-operands-i.is (c.in_ok-is_constrained.ensures.0 c.if-not-branch.false)
