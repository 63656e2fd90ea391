use Rattle.std.proofs.Common.{◌≡◌, drop}
use Rattle.md_draft.specs.Compact as spec
use Rattle.md_draft.proofs.compact.are_apart.Given as goal

abbrev pub invariant-loop-at : goal.invariant-loop-at
invariant-loop-at l = spec.are_apart (drop l.at l.columns) ≡ spec.are_apart l.columns
