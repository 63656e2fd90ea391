use Rattle.std.proofs.Common.{take}
use Rattle.rv_unit.specs.machine.Labels.{AreLabels}
use Rattle.rv_unit.proofs.labels.labels_of.Given as goal

abbrev pub invariant-loop-at : goal.invariant-loop-at
invariant-loop-at l = AreLabels (take l.at l.items) l.labels
