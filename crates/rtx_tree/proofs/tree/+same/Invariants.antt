-- The kids so far are the same.
use Rattle.std.proofs.Common.{◌≡◌, take}
use Rattle.rtx_tree.proofs.tree.+same.Given as goal

abbrev pub invariant-loop-i : goal.invariant-loop-i
invariant-loop-i l = take l.i l.xs ≡ take l.i l.ys
