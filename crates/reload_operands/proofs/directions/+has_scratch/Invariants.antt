use Rattle.std.proofs.Common.{◌≡◌, drop}
use Rattle.std.specs.List.{list_any}
use Rattle.reload_operands.specs.Directions.{has_number, scratches_in}
use Rattle.reload_operands.proofs.directions.+has_scratch.Given as goal

abbrev pub invariant-loop-kid : goal.invariant-loop-kid
invariant-loop-kid l = list_any (λ part. has_number l.number (scratches_in part)) (drop l.kid-index l.kid-items) ≡ has_number l.number (scratches_in l.x)
