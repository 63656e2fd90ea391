use Rattle.std.proofs.Common.{◌+◌, ◌-◌, arith}
use Rattle.c_eval.proofs.Scans.{scans_back}
use Rattle.c_eval.proofs.walk.start_of.Goals as goal

pub loop-missing-preserved : goal.loop-missing-preserved
loop-missing-preserved c =
    scans_back c.args.heads.now c.args.end c.loop-missing.start (c.loop-missing.start - 1) c.loop-missing.missing (c.loop-missing.missing - 1 + c.size_of.result) c.index-heads-start.result c.requires c.loop-missing.invariant (omega (arith, c.if-start-gt0.true)) c.loop-missing-test.true c.index-heads-start.is (omega (arith, c.size_of.ensures.value, c.size_of.ensures.bound)) (omega (arith, c.loop-missing-test.true, c.size_of.ensures.value))
