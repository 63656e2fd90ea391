-- They are the same so far.
use Rattle.std.proofs.Common.{◌≡◌, map, take}
use Rattle.plain_held.specs.Rows.{constrained_of}
use Rattle.plain_held.proofs.operands.are_constrained.Given as goal

abbrev pub invariant-loop-i : goal.invariant-loop-i
invariant-loop-i l = take l.i l.operands ≡ take l.i (map (constrained_of l.names) l.wanted)
