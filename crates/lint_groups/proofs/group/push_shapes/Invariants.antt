use Rattle.std.proofs.Common.{◌≡◌, ◌++◌, map, drop}
use Rattle.lint_groups.specs.declared.group.Group.TheVariants as group
use Rattle.lint_groups.proofs.group.push_shapes.Given as goal

abbrev pub invariant-loop-shape : goal.invariant-loop-shape
invariant-loop-shape l = l.out ++ map group.Shape (drop l.shape-index l.shapes) ≡ l.fn.out ++ map group.Shape l.shapes
