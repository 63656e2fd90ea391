use Rattle.std.proofs.Common.{◌≡◌, take}
use Rattle.md_draft.specs.Patterns as spec
use Rattle.md_draft.proofs.pattern.instructions.Given as goal

abbrev pub invariant-loop-tree : goal.invariant-loop-tree
invariant-loop-tree l = l.count ≡ spec.instructions (take l.tree-index l.trees)
