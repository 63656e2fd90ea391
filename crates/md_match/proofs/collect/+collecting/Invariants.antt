use Rattle.md_match.proofs.Reaching.{Reaches}
use Rattle.md_match.proofs.collect.+collecting.Given as goal

abbrev pub invariant-collect_all-loop-i : goal.invariant-collect_all-loop-i
invariant-collect_all-loop-i l = Reaches l.patterns l.insns l.fn.operands l.i l.operands
