use Rattle.std.proofs.Common.{◌≡◌, ◌+◌, ◌-◌, ◌^◌, min, take, sum_by}
use Rattle.ask_order.specs.Order.{weight_at}
use Rattle.ask_order.proofs.weights.weight_of.Given as goal

abbrev pub invariant-loop-place : goal.invariant-loop-place
invariant-loop-place l = l.weight ≡ min (1 + sum_by (weight_at l.weights) (take l.place-index l.places)) (2 ^ 32 - 1)
