use Rattle.reg_rows.proofs.WordLaws.{IsJoined}
use Rattle.reg_rows.proofs.words.join.Given as goal

abbrev pub invariant-loop-i : goal.invariant-loop-i
invariant-loop-i l = IsJoined l.initial.into l.from l.into l.i l.changed
