use Rattle.std.proofs.Common.{◌≡◌, ◌++◌, drop}
use Rattle.rv_image.specs.Image.{first_outside, outside_from}
use Rattle.rv_image.proofs.outside.outside_of.Given as goal

abbrev pub invariant-loop-name : goal.invariant-loop-name
invariant-loop-name l = l.outside ++ outside_from l.address (drop l.name-index l.names) ≡ outside_from first_outside l.names
