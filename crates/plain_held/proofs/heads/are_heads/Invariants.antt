-- They are the same so far.
use Rattle.std.proofs.Common.{◌≡◌, map, take}
use Rattle.plain_held.specs.Rows.{head_of}
use Rattle.plain_held.proofs.heads.are_heads.Given as goal

abbrev pub invariant-loop-i : goal.invariant-loop-i
invariant-loop-i l = take l.i l.heads ≡ take l.i (map head_of l.words)
