use Rattle.std.proofs.Common.{take}
use Rattle.rv_image.specs.Image.{symbols_named}
use Rattle.rv_image.specs.machine.Steps.{Takes}
use Rattle.rv_image.proofs.outside.outside_names.Given as goal

abbrev pub invariant-loop-unit : goal.invariant-loop-unit
invariant-loop-unit l = Takes l.initial.known l.initial.names l.known l.names (symbols_named (take l.unit-index l.units))
