use Rattle.std.proofs.Common.{◌≡◌, drop, map}
use Rattle.pred_expr.specs.Test.{each, test_of}
use Rattle.pred_expr.proofs.Each.{together}
use Rattle.pred_expr.proofs.test.+read.Given as goal

abbrev pub invariant-each-loop-tree : goal.invariant-each-loop-tree
invariant-each-loop-tree l = together l.tests (each (map (test_of l.constants) (drop l.tree-index l.trees))) ≡ each (map (test_of l.constants) l.trees)
