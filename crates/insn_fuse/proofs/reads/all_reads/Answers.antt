use Rattle.insn_fuse.specs.Fused.{effect_reads}
use Rattle.insn_fuse.proofs.Paths.{left_from, one_more}
use Rattle.insn_fuse.proofs.reads.all_reads.Goals as goal

pub loop-i-preserved : goal.loop-i-preserved
loop-i-preserved c =
    one_more (effect_reads c.args.reg) c.loop-i.paths c.add_behind.new.paths (left_from (effect_reads c.args.reg) 0 c.args.effects.now) c.args.effects.now c.loop-i.i
    c.in_ok-effect_reads.field-0 c.index-effects-i.result c.loop-i-test.true c.index-effects-i.is c.in_ok-effect_reads.ensures c.in_ok-add_behind.ensures c.loop-i.invariant
