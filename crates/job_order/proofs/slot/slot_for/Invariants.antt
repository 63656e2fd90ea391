use Rattle.std.proofs.Common.{◌≡◌, ℕ, ◌-◌, ◌<◌, ◌≤◌, None, length}
use Rattle.job_order.specs.Slots.{late_for, free_way}
use Rattle.job_order.proofs.slot.slot_for.Given as goal

abbrev pub invariant-loop-way : goal.invariant-loop-way
invariant-loop-way l = record {
  late : late_for l.placed.cycles l.job.asks ≤ l.cycle;
  least : (other : ℕ) → late_for l.placed.cycles l.job.asks ≤ other → other < l.cycle → free_way l.placed.taken other l.job.ways ≡ None;
}

abbrev pub decreases-loop-way : goal.decreases-loop-way
decreases-loop-way l = length l.placed.taken - l.cycle
