use Rattle.std.proofs.Common.{◌≡◌, map, take}
use Rattle.md_pred.specs.machine.Weights.{asked_by}
use Rattle.md_pred.proofs.weight.asked_of.Given as goal

abbrev pub invariant-loop-node : goal.invariant-loop-node
invariant-loop-node l = l.asked ≡ map (asked_by l.definitions) (take l.node-index l.definitions.rows)
