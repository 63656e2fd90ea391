use Rattle.reload_operands.proofs.InsideLaws.{Looks}
use Rattle.reload_operands.proofs.inside.+looking.Given as goal

abbrev pub invariant-any_inside-loop-i : goal.invariant-any_inside-loop-i
invariant-any_inside-loop-i l = Looks l.number l.patterns l.inside l.trees l.i
