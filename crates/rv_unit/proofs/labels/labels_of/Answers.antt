-- One item more.
use Rattle.rv_unit.proofs.Found.{labels_more}
use Rattle.rv_unit.proofs.labels.labels_of.Goals as goal

pub loop-at-preserved : goal.loop-at-preserved
loop-at-preserved c =
    labels_more c.args.items.now c.loop-at.labels c.put.new.labels c.loop-at.at c.index-items-at.result c.loop-at-test.true c.index-items-at.is c.loop-at.invariant c.in_ok-put.ensures
