use Rattle.std.proofs.Common.{arith}
use Rattle.live_rows.specs.Paths.{Fits}
use Rattle.reg_rows.proofs.WidthLaws.{All-taken}
use Rattle.live_rows.proofs.WidthLaws.{fits-more}
use Rattle.live_rows.proofs.solve.width_for.Goals as goal

pub loop-node-preserved : goal.loop-node-preserved
loop-node-preserved c =
    let inv = c.loop-node.invariant in
    let new = c.width_with-width.ensures in
    record {
      small = new.small;
      room = fits-more c.args.nodes.now c.loop-node.node-index c.loop-node.width c.width_with-width.result c.node-item.result (omega arith) c.node-item.is inv.room new.from new.room;
    }

pub returns-clause-fits : goal.returns-clause-fits
returns-clause-fits c = All-taken (Fits c.loop-node.width) c.args.nodes.now c.loop-node.node-index (omega arith) c.loop-node.invariant.room
