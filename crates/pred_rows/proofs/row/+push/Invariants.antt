use Rattle.std.proofs.Common.{◌≡◌, length, take}
use Rattle.pred_rows.specs.machine.Steps.{AreRoots}
use Rattle.pred_rows.proofs.row.+push.Given as goal

abbrev pub invariant-push_all-loop-test : goal.invariant-push_all-loop-test
invariant-push_all-loop-test l = record {
  kept : take (length l.fn.nodes) l.nodes ≡ l.fn.nodes;
  roots : AreRoots l.nodes (take l.test-index l.tests) l.roots;
}
