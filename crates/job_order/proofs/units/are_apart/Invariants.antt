use Rattle.std.proofs.Common.{◌≡◌, drop}
use Rattle.job_order.specs.Slots.{are_apart}
use Rattle.job_order.proofs.units.are_apart.Given as goal

abbrev pub invariant-loop-at : goal.invariant-loop-at
invariant-loop-at l = are_apart (drop l.at l.taken) (drop l.at l.way) ≡ are_apart l.taken l.way
