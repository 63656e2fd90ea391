use Rattle.std.proofs.Common.{◌-◌, length}
use Rattle.long_branches.specs.machine.Rounds.{count, HasGrown}
use Rattle.long_branches.proofs.least.least_long.Given as goal

abbrev pub invariant-rounds : goal.invariant-rounds
invariant-rounds l = HasGrown l.pieces l.longs.items

abbrev pub decreases-rounds : goal.decreases-rounds
decreases-rounds l = length l.pieces - count l.longs.items
