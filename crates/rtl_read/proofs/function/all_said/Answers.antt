use Rattle.rtl_read.proofs.SaidLaws.{said_next}
use Rattle.rtl_read.proofs.function.all_said.Goals as goal

pub loop-tree-preserved : goal.loop-tree-preserved
loop-tree-preserved c = said_next c.loop-tree.said c.add_item.new.said c.args.trees.now c.loop-tree.tree-index c.tree-item.result _ c.loop-tree-test.true c.tree-item.is c.in_ok-add_item.ensures c.loop-tree.invariant
