use Rattle.std.proofs.Common.{◌≡◌, ◌++◌, drop}
use Rattle.md_draft.specs.Compact.{each_from, column_constraint, old_texts}
use Rattle.md_draft.proofs.compact.old_texts.Given as goal

abbrev pub invariant-loop-at : goal.invariant-loop-at
invariant-loop-at l = l.texts ++ each_from (column_constraint l.block) l.at (drop l.at l.block.layout.columns) ≡ old_texts l.block
