use Rattle.md_recog.proofs.Taken.{Taken}
use Rattle.md_recog.proofs.accepted.+accepting.Given as goal

abbrev pub invariant-all_accepted-loop-i : goal.invariant-all_accepted-loop-i
invariant-all_accepted-loop-i g l = Taken (g.P.Preds.accepts l.preds) l.patterns l.insns l.i
