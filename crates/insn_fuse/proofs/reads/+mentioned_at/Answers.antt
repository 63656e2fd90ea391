use Rattle.insn_fuse.specs.Fused.{mentioned_at}
use Rattle.insn_fuse.proofs.Paths.{one_more}
use Rattle.insn_fuse.proofs.reads.+mentioned_at.Goals as goal

pub loop-i-preserved : goal.loop-i-preserved
loop-i-preserved t c =
    one_more (mentioned_at c.args.reg) c.loop-i.paths c.add_behind.new.paths (mentioned_at c.args.reg c.args.x.now) c.as_slice-kids.result.now c.loop-i.i
    c.in_ok-mentioned_at.field-0 c.index-kids-i.result c.loop-i-test.true c.index-kids-i.is c.in_ok-mentioned_at.ensures c.in_ok-add_behind.ensures c.loop-i.invariant
