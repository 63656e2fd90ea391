use Rattle.reload_operands.proofs.ChangeLaws.{Looks}
use Rattle.reload_operands.proofs.changes.other_memory.Given as goal

abbrev pub invariant-loop-at : goal.invariant-loop-at
invariant-loop-at l = Looks l.number l.patterns l.effects l.at
