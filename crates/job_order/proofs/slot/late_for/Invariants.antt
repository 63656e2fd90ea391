use Rattle.std.proofs.Common.{◌≡◌, max, drop}
use Rattle.job_order.specs.Slots.{late_for}
use Rattle.job_order.proofs.slot.late_for.Given as goal

abbrev pub invariant-loop-ask : goal.invariant-loop-ask
invariant-loop-ask l = max l.late (late_for l.cycles (drop l.ask-index l.asks)) ≡ late_for l.cycles l.asks
