use Rattle.std.proofs.Common.{take}
use Rattle.std.specs.List.{flat_map}
use Rattle.rv_image.specs.Image.{item_symbols}
use Rattle.rv_image.specs.machine.Steps.{Takes}
use Rattle.rv_image.proofs.outside.put_items.Given as goal

abbrev pub invariant-loop-item : goal.invariant-loop-item
invariant-loop-item l = Takes l.initial.known l.initial.names l.known l.names (flat_map item_symbols (take l.item-index l.items))
