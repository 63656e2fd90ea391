-- No dead set stands in front of the place.
use Rattle.std.proofs.Common.{◌≡◌, ◌-◌, length}
use Rattle.reuse.specs.machine.Found.{NoneDeadBefore}
use Rattle.reuse.proofs.dead.first_dead.Given as goal

abbrev pub invariant-loop-place : goal.invariant-loop-place
invariant-loop-place l = record {
  none : NoneDeadBefore l.chain l.place;
  same : l.chain ≡ l.fn.chain;
}

abbrev pub decreases-loop-place : goal.decreases-loop-place
decreases-loop-place l = length l.chain.insns - l.place
