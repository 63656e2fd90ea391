use Rattle.std.proofs.Common.{◌≡◌, map, take}
use Rattle.rv_unit.specs.machine.Labels.{lead_in}
use Rattle.rv_unit.proofs.layout.leads_of.Given as goal

abbrev pub invariant-loop-item : goal.invariant-loop-item
invariant-loop-item l = l.leads ≡ map (lead_in l.labels) (take l.item-index l.items)
