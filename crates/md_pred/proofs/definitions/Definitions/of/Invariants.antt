use Rattle.std.proofs.Common.{take}
use Rattle.md_pred.specs.machine.Steps.{AreKept}
use Rattle.md_pred.proofs.definitions.Definitions.of.Given as goal

abbrev pub invariant-loop-entry : goal.invariant-loop-entry
invariant-loop-entry l = AreKept l.definitions (take l.entry-index l.entries)
