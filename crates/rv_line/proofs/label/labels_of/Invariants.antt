-- The labels of the items that are left.
use Rattle.rv_line.specs.machine.Labels.{AreLabels}
use Rattle.rv_line.proofs.label.labels_of.Given as goal

abbrev pub invariant-loop-place : goal.invariant-loop-place
invariant-loop-place l = AreLabels l.items l.place l.labels
