use Rattle.c_eval.proofs.Same.{tree_is}
use Rattle.c_eval.proofs.accessor.same_tree.Goals as goal

pub returns : goal.returns
returns c = tree_is c.args.a.now c.args.b.now c.same.result c.same.ensures
