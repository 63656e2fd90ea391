use Rattle.std.proofs.Common.{◌≡◌, take}
use Rattle.reload_operands.proofs.news.copies.Given as goal

abbrev pub invariant-loop-tree : goal.invariant-loop-tree
invariant-loop-tree l = l.kids ≡ take l.tree-index l.trees
