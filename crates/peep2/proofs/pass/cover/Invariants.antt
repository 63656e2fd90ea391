-- What the function comes to from the place on, the first one comes to from its beginning.
use Rattle.std.proofs.Common.{◌-◌, length}
use Rattle.peep2.specs.machine.Steps.{Reaches}
use Rattle.peep2.proofs.pass.cover.Given as goal

abbrev pub invariant-loop-place : goal.invariant-loop-place
invariant-loop-place l = Reaches l.fn.desc l.fn.f 0 l.chain l.place

abbrev pub decreases-loop-place : goal.decreases-loop-place
decreases-loop-place l = length l.chain.insns - l.place
