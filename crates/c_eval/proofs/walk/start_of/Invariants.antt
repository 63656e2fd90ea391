use Rattle.c_eval.proofs.Scans.{Scans}
use Rattle.c_eval.proofs.walk.start_of.Given as goal

abbrev pub invariant-loop-missing : goal.invariant-loop-missing
invariant-loop-missing l = Scans l.heads l.end l.start l.missing

abbrev pub decreases-loop-missing : goal.decreases-loop-missing
decreases-loop-missing l = l.start
