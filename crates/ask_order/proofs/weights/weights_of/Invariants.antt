use Rattle.ask_order.proofs.WeightLaws.{Weighed}
use Rattle.ask_order.proofs.weights.weights_of.Given as goal

abbrev pub invariant-loop-place : goal.invariant-loop-place
invariant-loop-place l = Weighed l.asked l.order l.weights l.place-index
