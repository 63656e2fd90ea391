use Rattle.std.proofs.Common.{◌≡◌, take}
use Rattle.law_order.specs.Ordered.{in_order}
use Rattle.schedule.specs.Schedule.{with_cycles}
use Rattle.schedule.proofs.plan.cycles_in.Given as goal

abbrev pub invariant-loop-place : goal.invariant-loop-place
invariant-loop-place l = l.told ≡ in_order (with_cycles l.insns l.cycles) (take l.place-index l.order)
