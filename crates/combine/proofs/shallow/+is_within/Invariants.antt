use Rattle.std.proofs.Common.{◌≡◌, nat_le, ◌-◌}
use Rattle.combine.specs.Combine.{levels}
use Rattle.combine.proofs.Depth.{are_within}
use Rattle.combine.proofs.shallow.+is_within.Given as goal

abbrev pub invariant-loop-kid : goal.invariant-loop-kid
invariant-loop-kid l = are_within l.kid-items l.kid-index (l.most - 1) ≡ nat_le (levels l.x) l.most
