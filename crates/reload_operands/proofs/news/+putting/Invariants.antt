use Rattle.reload_operands.proofs.PutLaws.{Parts}
use Rattle.reload_operands.proofs.news.+putting.Given as goal

abbrev pub invariant-put_in_parts-loop-i : goal.invariant-put_in_parts-loop-i
invariant-put_in_parts-loop-i l = Parts l.patterns l.news l.trees l.kids l.i
