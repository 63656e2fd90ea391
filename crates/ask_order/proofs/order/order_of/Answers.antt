use Rattle.std.proofs.Common.{arith, refl}
use Rattle.ask_order.proofs.Marks.{finished}
use Rattle.ask_order.proofs.order.order_of.Goals as goal

pub returns : goal.returns
returns c =
    finished c.args.asked.now c.loop-place.known.items c.loop-place.order c.loop-place.order c.loop-place.place
    c.loop-place.invariant.kept c.loop-place.invariant.done (omega arith) refl
