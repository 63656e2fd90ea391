use Rattle.std.proofs.Common.{◌≡◌, take}
use Rattle.std.specs.List.{flat_map}
use Rattle.md_iter.specs.Definition as spec
use Rattle.md_iter.proofs.definition.all_constants_in.Given as goal

abbrev pub invariant-loop-tree : goal.invariant-loop-tree
invariant-loop-tree l = l.all.items ≡ flat_map spec.constants_or_none (take l.tree-index l.trees)
