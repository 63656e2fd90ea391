use Rattle.std.proofs.Common.{◌≡◌, List, ℕ, take}
use Rattle.rv_image.specs.Image.{is_function}
use Rattle.rv_image.specs.machine.Steps.{knows}
use Rattle.rv_image.proofs.outside.functions_of.Given as goal

abbrev pub invariant-loop-unit : goal.invariant-loop-unit
invariant-loop-unit l = (name : List ℕ) → knows l.known name ≡ is_function (take l.unit-index l.units) name
