use Rattle.std.proofs.Common.{◌≡◌, take, map}
use Rattle.md_compact.specs.Old.{value}
use Rattle.md_compact.proofs.old.values_at.Given as goal

abbrev pub invariant-loop-row : goal.invariant-loop-row
invariant-loop-row l = l.values ≡ map (value l.at) (take l.row-index l.row-items)
