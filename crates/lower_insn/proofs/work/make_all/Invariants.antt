use Rattle.lower_insn.proofs.Steps.{Reaches}
use Rattle.lower_insn.proofs.work.make_all.Given as goal

abbrev pub invariant-loop-turn : goal.invariant-loop-turn
invariant-loop-turn l = Reaches l.desc l.uids l.fn.work l.work
