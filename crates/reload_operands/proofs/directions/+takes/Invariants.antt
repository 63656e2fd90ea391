use Rattle.std.proofs.Common.{◌≡◌, drop}
use Rattle.std.specs.List.{list_any}
use Rattle.md_constr.specs.Inputs.{taken_in}
use Rattle.reload_operands.specs.Directions.{has_number}
use Rattle.reload_operands.proofs.directions.+takes.Given as goal

abbrev pub invariant-loop-kid : goal.invariant-loop-kid
invariant-loop-kid l = list_any (λ part. has_number l.number (taken_in part)) (drop l.kid-index l.kid-items) ≡ has_number l.number (taken_in l.x)
