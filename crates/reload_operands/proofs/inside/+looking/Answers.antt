use Rattle.std.proofs.Common.{arith}
use Rattle.reload_operands.proofs.InsideLaws.{looks_past}
use Rattle.reload_operands.proofs.inside.+looking.Goals as goal

pub any_inside-returns : goal.any_inside-returns
any_inside-returns t c = looks_past c.args.number c.args.patterns.now c.args.inside c.args.trees.now c.loop-i.i (omega (arith, c.loop-i-test.false, c.min-i-end.ensures)) c.loop-i.invariant
