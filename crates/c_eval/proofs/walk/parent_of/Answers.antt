use Rattle.std.proofs.Common.{◌+◌, ◌-◌, arith}
use Rattle.c_eval.proofs.Scans.{seeks_found, seeks_on}
use Rattle.c_eval.proofs.walk.parent_of.Goals as goal

pub returns-then-size-later : goal.returns-then-size-later
returns-then-size-later c =
    seeks_found c.args.heads.now c.args.from c.args.end c.loop-at.at c.loop-at.later c.index-heads-at.result c.requires.within c.loop-at-test.true c.requires.taken c.loop-at.invariant c.index-heads-at.is (omega (arith, c.if-size-later.true, c.size_of-size.ensures.value))

pub overflow_add-later : goal.overflow_add-later
overflow_add-later c = omega (arith, c.loop-at.invariant.behind, c.loop-at-test.true, c.ranges.end.fits)

pub loop-at-preserved : goal.loop-at-preserved
loop-at-preserved c =
    seeks_on c.args.heads.now c.args.from c.loop-at.at c.loop-at.later (c.loop-at.later + 1 - c.size_of-size.result) c.index-heads-at.result c.loop-at.invariant (omega (arith, c.loop-at-test.true, c.requires.within)) c.index-heads-at.is (omega (arith, c.if-size-later.false, c.size_of-size.ensures.value)) (omega (arith, c.if-size-later.false, c.size_of-size.ensures.value))
