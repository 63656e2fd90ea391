use Rattle.std.proofs.Common.{◌≡◌, drop}
use Rattle.md_text.specs.Lists.{each}
use Rattle.md_text.proofs.Each.{with_front}
use Rattle.md_draft.specs.Parts.{attribute_in}
use Rattle.md_draft.proofs.text.attributes_of.Given as goal

abbrev pub invariant-loop-tree : goal.invariant-loop-tree
invariant-loop-tree l = with_front l.attributes (each attribute_in (drop l.tree-index l.trees)) ≡ each attribute_in l.trees
