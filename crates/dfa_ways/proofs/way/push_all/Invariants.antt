use Rattle.std.proofs.Common.{◌≡◌, ◌++◌, take}
use Rattle.dfa_ways.proofs.way.push_all.Given as goal

abbrev pub invariant-loop-units : goal.invariant-loop-units
invariant-loop-units l = l.way ≡ l.initial.way ++ take l.units-index l.more
