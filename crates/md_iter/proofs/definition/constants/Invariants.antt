use Rattle.std.proofs.Common.{◌≡◌, drop}
use Rattle.md_iter.specs.Definition as spec
use Rattle.md_iter.proofs.Each.{with_front}
use Rattle.md_iter.proofs.definition.constants.Given as goal

abbrev pub invariant-loop-tree : goal.invariant-loop-tree
invariant-loop-tree l = with_front l.constants (spec.each_of spec.constant_of (drop l.tree-index l.trees)) ≡ spec.each_of spec.constant_of l.trees
