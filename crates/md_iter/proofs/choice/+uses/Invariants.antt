use Rattle.std.proofs.Common.{◌≡◌, drop}
use Rattle.std.specs.List.{fold}
use Rattle.md_iter.specs.Choice as spec
use Rattle.md_iter.specs.Choice.{lent}
use Rattle.md_iter.specs.machine.Steps as steps
use Rattle.md_iter.proofs.choice.+uses.Given as goal

abbrev pub invariant-add_of_trees-loop-tree : goal.invariant-add_of_trees-loop-tree
invariant-add_of_trees-loop-tree l = fold spec.added (lent l.used.items) (steps.uses_of l.iterators (drop l.tree-index l.trees) l.is_head) ≡ fold spec.added (lent l.initial.used.items) (steps.uses_of l.iterators l.trees l.head_first)
