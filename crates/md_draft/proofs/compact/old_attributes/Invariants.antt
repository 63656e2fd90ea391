use Rattle.std.proofs.Common.{◌≡◌, ◌++◌, drop}
use Rattle.md_draft.specs.Compact.{each_from, name_values, old_attributes}
use Rattle.md_draft.proofs.compact.old_attributes.Given as goal

abbrev pub invariant-loop-at : goal.invariant-loop-at
invariant-loop-at l = l.attributes ++ each_from (name_values l.block) l.at (drop l.at l.block.layout.names) ≡ old_attributes l.block
