use Rattle.std.proofs.Common.{◌≡◌, ◌+◌, ◌*◌, drop}
use Rattle.rv_image.specs.machine.Steps.{words_in}
use Rattle.rv_image.proofs.units.bytes_of.Given as goal

abbrev pub invariant-loop-layout : goal.invariant-loop-layout
invariant-loop-layout l = l.bytes + 4 * words_in (drop l.layout-index l.layouts) ≡ 4 * words_in l.layouts
