use Rattle.std.proofs.Common.{◌≡◌, take}
use Rattle.law_order.specs.Ordered.{in_order}
use Rattle.schedule.proofs.plan.insns_in.Given as goal

abbrev pub invariant-loop-place : goal.invariant-loop-place
invariant-loop-place l = l.new ≡ in_order l.insns (take l.place-index l.order)
