use Rattle.std.proofs.Common.{◌≡◌, ◌++◌, drop}
use Rattle.std.specs.List.{flat_map}
use Rattle.md_tables.specs.Names as spec
use Rattle.md_tables.proofs.names.push_all_predicates.Given as goal

abbrev pub invariant-loop-tree : goal.invariant-loop-tree
invariant-loop-tree l = l.names ++ flat_map spec.predicates_in (drop l.tree-index l.trees) ≡ l.fn.names ++ flat_map spec.predicates_in l.trees
