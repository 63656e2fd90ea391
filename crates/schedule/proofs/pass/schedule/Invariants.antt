-- What comes of the rest from the place on comes of the function from its beginning.
use Rattle.std.proofs.Common.{[], ◌-◌, length}
use Rattle.schedule.proofs.StepLaws.{LeadsFrom}
use Rattle.schedule.proofs.pass.schedule.Given as goal

abbrev pub invariant-loop-place : goal.invariant-loop-place
invariant-loop-place l = LeadsFrom l.fn.desc l.fn.pipe 0 l.fn.f [] l.place l.chain l.cycles

abbrev pub decreases-loop-place : goal.decreases-loop-place
decreases-loop-place l = length l.chain.insns - l.place
