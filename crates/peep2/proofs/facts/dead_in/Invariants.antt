use Rattle.std.proofs.Common.{◌≡◌}
use Rattle.peep2.proofs.Dead.{AreDeadFront}
use Rattle.peep2.proofs.facts.dead_in.Given as goal

abbrev pub invariant-loop-point : goal.invariant-loop-point
invariant-loop-point l = record {
  same : l.chain ≡ l.fn.chain;
  front : AreDeadFront l.fn.chain l.place l.count l.dead l.point;
}
