use Rattle.c_eval.proofs.Scans.{Seeks}
use Rattle.c_eval.proofs.walk.parent_of.Given as goal

abbrev pub invariant-loop-at : goal.invariant-loop-at
invariant-loop-at l = Seeks l.heads l.from l.at l.later
