use Rattle.std.proofs.Common.{◌≡◌, take}
use Rattle.c_cond.proofs.parse.heads_copy.Given as goal

abbrev pub invariant-loop-head : goal.invariant-loop-head
invariant-loop-head l = l.copy ≡ take l.head-index l.heads
