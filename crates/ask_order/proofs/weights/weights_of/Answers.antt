use Rattle.std.proofs.Common.{◌∙◌, ap, arith}
use Rattle.ask_order.specs.Order.{weighs}
use Rattle.ask_order.proofs.WeightLaws.{weighed_on, place_within, all_weighed}
use Rattle.ask_order.proofs.weights.weights_of.Goals as goal

pub replace-requires : goal.replace-requires
replace-requires c = place_within c.args.asked.now c.args.order.now c.requires c.loop-place.weights c.loop-place.place-index c.loop-place.invariant (omega arith)

pub loop-place-preserved : goal.loop-place-preserved
loop-place-preserved c =
    weighed_on c.args.asked.now c.args.order.now c.requires c.loop-place.weights c.replace.new.self c.as_slice.result.now c.loop-place.place-index c.weight_of-weight.result
    c.loop-place.invariant (omega arith) c.as_slice.ensures.value
    (c.weight_of-weight.ensures ∙ ap (weighs c.as_slice.result.now) c.asked_at.ensures) c.replace.ensures.items

pub returns : goal.returns
returns c = all_weighed c.args.asked.now c.args.order.now c.requires c.loop-place.weights c.loop-place.place-index (omega arith) c.loop-place.invariant
