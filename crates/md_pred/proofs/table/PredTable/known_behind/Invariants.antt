use Rattle.md_pred.specs.machine.Known.{AreKnown}
use Rattle.md_pred.proofs.table.PredTable.known_behind.Given as goal

abbrev pub invariant-loop-place : goal.invariant-loop-place
invariant-loop-place l = AreKnown l.self l.x l.known
