use Rattle.std.proofs.Common.{length}
use Rattle.peep2.proofs.scratch.+with_scratches.Given as goal

abbrev pub decreases-with_scratches : goal.decreases-with_scratches
decreases-with_scratches l = length l.patterns.now
