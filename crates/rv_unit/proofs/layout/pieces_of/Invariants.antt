use Rattle.std.proofs.Common.{◌≡◌, map, take}
use Rattle.rv_unit.specs.machine.Labels.{piece_in}
use Rattle.rv_unit.proofs.layout.pieces_of.Given as goal

abbrev pub invariant-loop-item : goal.invariant-loop-item
invariant-loop-item l = l.pieces ≡ map (piece_in l.labels) (take l.item-index l.items)
