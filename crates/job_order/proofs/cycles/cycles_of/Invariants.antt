use Rattle.std.proofs.Common.{ℕ, List}
use Rattle.job_order.specs.Order.{Places, AreCycles}
use Rattle.job_order.specs.machine.Bounds.{HasRoom, unplaced}
use Rattle.job_order.proofs.cycles.cycles_of.Given as goal

abbrev pub invariant-loop-place : goal.invariant-loop-place
invariant-loop-place l = record {
  leads : (cycles : List ℕ) → Places l.jobs l.placed cycles → AreCycles l.jobs cycles;
  room : HasRoom l.jobs l.placed;
}

abbrev pub decreases-loop-place : goal.decreases-loop-place
decreases-loop-place l = unplaced l.placed
