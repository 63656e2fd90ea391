use Rattle.std.proofs.Common.{take}
use Rattle.rv_image.specs.machine.Steps.{AreLaid}
use Rattle.rv_image.proofs.units.layouts_of.Given as goal

abbrev pub invariant-loop-unit : goal.invariant-loop-unit
invariant-loop-unit l = AreLaid (take l.unit-index l.units) l.layouts
