use Rattle.term_tree.specs.View.{tree_of}
use Rattle.sym_diff.proofs.SameLaws.{same_told}
use Rattle.sym_diff.proofs.difference.same_terms.Goals as goal

pub returns : goal.returns
returns c = same_told c.same.result (tree_of c.args.a.now) (tree_of c.args.b.now) c.same.ensures
