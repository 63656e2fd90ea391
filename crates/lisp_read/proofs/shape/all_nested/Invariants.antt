use Rattle.std.proofs.Common.{◌≡◌, drop}
use Rattle.std.specs.List.{list_all}
use Rattle.lisp_read.specs.Shape.{is_nested}
use Rattle.lisp_read.proofs.shape.all_nested.Given as goal

abbrev pub invariant-loop-tree : goal.invariant-loop-tree
invariant-loop-tree l = list_all is_nested (drop l.tree-index l.trees) ≡ list_all is_nested l.trees
