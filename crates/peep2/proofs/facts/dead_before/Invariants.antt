use Rattle.std.proofs.Common.{◌≡◌}
use Rattle.live.specs.Live.{IsLive}
use Rattle.peep2.proofs.Dead.{AreDeadBelow}
use Rattle.peep2.proofs.facts.dead_before.Given as goal

abbrev pub invariant-loop-reg : goal.invariant-loop-reg
invariant-loop-reg l = record {
  same : l.chain ≡ l.fn.chain;
  dead : AreDeadBelow (λ reg. IsLive l.fn.chain reg l.place) l.dead l.reg;
}
