use Rattle.std.proofs.Common.{◌≡◌, ◌++◌, drop, map}
use Rattle.md_iter.specs.Choice.{chosen_of}
use Rattle.md_iter.specs.machine.Steps as steps
use Rattle.md_iter.proofs.substitution.+substitution.Given as goal

abbrev pub invariant-substituted_trees-loop-tree : goal.invariant-substituted_trees-loop-tree
invariant-substituted_trees-loop-tree l = l.out ++ steps.substituted_trees l.definitions (map chosen_of l.choices) (drop l.tree-index l.trees) l.is_head ≡ steps.substituted_trees l.definitions (map chosen_of l.choices) l.trees l.head_first
