use Rattle.pred_expr.proofs.Each.{each_next}
use Rattle.pred_expr.proofs.TestLaws.{test_at}
use Rattle.pred_expr.proofs.test.+read.Goals as goal

pub each-loop-tree-preserved : goal.each-loop-tree-preserved
each-loop-tree-preserved t c = each_next _ _ _ _ _ _ _ _ c.loop-tree-test.true c.tree-item.is c.in_ok-test.ensures c.in_ok-tests.ensures c.loop-tree.invariant

pub test_in-returns-in-Some : goal.test_in-returns-in-Some
test_in-returns-in-Some t c = rw (test_at _ _ _ _ _ _ c.items.ensures c.in-len1-up.len_at_least c.head-item.is c.in-Some.ensures c.bytes.ensures) c.list.ensures
