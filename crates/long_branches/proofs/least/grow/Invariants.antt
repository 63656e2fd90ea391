use Rattle.long_branches.specs.machine.Rounds.{IsRound}
use Rattle.long_branches.proofs.least.grow.Given as goal

abbrev pub invariant-loop-at : goal.invariant-loop-at
invariant-loop-at l = IsRound l.pieces l.places l.initial.longs l.longs l.at l.some
