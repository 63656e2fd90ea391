use Rattle.std.proofs.Common.{arith}
use Rattle.plain_held.specs.Rows.{head_of}
use Rattle.plain_held.proofs.Same.{one_more}
use Rattle.plain_held.proofs.heads.are_heads.Goals as goal

pub loop-i-preserved : goal.loop-i-preserved
loop-i-preserved c =
    one_more head_of c.args.heads.now c.args.words.now c.loop-i.i c.index-heads-i.result _ c.loop-i.invariant (omega arith) (omega arith) c.index-heads-i.is (c.is_head.ensures.0 c.if-not-is_head.false)
