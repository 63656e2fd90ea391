use Rattle.std.proofs.Common.{◌≡◌, ◌++◌, drop}
use Rattle.std.specs.List.{flat_map}
use Rattle.md_draft.specs.Compact as spec
use Rattle.md_draft.proofs.compact.push_all_operands.Given as goal

abbrev pub invariant-loop-tree : goal.invariant-loop-tree
invariant-loop-tree l = l.numbers ++ flat_map spec.operands_in (drop l.tree-index l.trees) ≡ l.fn.numbers ++ flat_map spec.operands_in l.trees
