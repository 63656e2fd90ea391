use Rattle.std.proofs.Common.{◌≡◌, length}
use Rattle.func_image.specs.Image as spec
use Rattle.func_image.proofs.image.units_of.Given as goal

abbrev pub invariant-loop-items : goal.invariant-loop-items
invariant-loop-items l = record {
  made : l.units ≡ spec.units_of l.functions l.yielded;
  number : l.at ≡ length l.yielded;
}
