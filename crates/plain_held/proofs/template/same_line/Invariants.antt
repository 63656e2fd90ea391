-- They are the same so far.
use Rattle.std.proofs.Common.{◌≡◌, take}
use Rattle.plain_held.proofs.template.same_line.Given as goal

abbrev pub invariant-loop-i : goal.invariant-loop-i
invariant-loop-i l = take l.i l.xs ≡ take l.i l.ys
