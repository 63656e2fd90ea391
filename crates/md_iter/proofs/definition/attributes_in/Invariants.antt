use Rattle.std.proofs.Common.{◌≡◌, take}
use Rattle.std.specs.List.{filter_map}
use Rattle.md_iter.specs.Definition as spec
use Rattle.md_iter.proofs.definition.attributes_in.Given as goal

abbrev pub invariant-loop-tree : goal.invariant-loop-tree
invariant-loop-tree l = l.attributes ≡ filter_map spec.attribute_of (take l.tree-index l.trees)
