use Rattle.live.specs.Live.{IsLiveAfter}
use Rattle.peep2.proofs.Dead.{AreDeadBelow}
use Rattle.peep2.proofs.facts.dead_after.Given as goal

abbrev pub invariant-loop-reg : goal.invariant-loop-reg
invariant-loop-reg l = AreDeadBelow (λ reg. IsLiveAfter l.fn.chain reg l.place) l.dead l.reg
