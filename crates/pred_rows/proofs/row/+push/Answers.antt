use Rattle.std.proofs.Common.{sym}
use Rattle.pred_rows.proofs.Roots.{kept_both, next_root, pushed}
use Rattle.pred_rows.proofs.row.+push.Goals as goal

pub push_all-loop-test-preserved : goal.push_all-loop-test-preserved
push_all-loop-test-preserved t c = record {
  kept = kept_both _ _ _ c.loop-test.invariant.kept c.push_test.ensures.kept;
  roots = rw c.in_ok-push.ensures.ok (next_root _ _ c.args.tests.now c.loop-test.test-index _ _ _ c.loop-test-test.true c.test-item.is c.push_test.ensures.kept c.loop-test.invariant.roots c.in_ok-push_test.ensures.root);
}

pub push_test-returns-clause-root : goal.push_test-returns-clause-root
push_test-returns-clause-root t c =
    pushed c.push_all.new.nodes c.push_node.new.nodes c.args.test.now c.in_ok-parts.parts c.in_ok-node.node c.push_node.result (rw (sym c.as_slice.ensures.value) c.in_ok-parts.ensures.roots) (rw (sym c.as_slice-2.ensures.value) c.in_ok-node.ensures) c.push_node.ensures.place c.push_node.ensures.more
