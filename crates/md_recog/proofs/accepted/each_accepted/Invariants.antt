use Rattle.md_match.proofs.Seen.{seen}
use Rattle.md_recog.proofs.Taken.{Taken}
use Rattle.md_recog.proofs.accepted.each_accepted.Given as goal

abbrev pub invariant-loop-i : goal.invariant-loop-i
invariant-loop-i g l = Taken (g.P.Preds.accepts l.preds) l.patterns (seen l.insns) l.i
