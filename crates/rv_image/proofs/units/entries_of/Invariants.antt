use Rattle.std.proofs.Common.{◌≡◌, ◌++◌, drop}
use Rattle.rv_image.specs.Image.{first_entry}
use Rattle.rv_image.specs.machine.Steps.{entries_in}
use Rattle.rv_image.proofs.units.entries_of.Given as goal

abbrev pub invariant-loop-at : goal.invariant-loop-at
invariant-loop-at l = l.entries ++ entries_in l.address (drop l.at l.units) (drop l.at l.layouts) ≡ entries_in first_entry l.units l.layouts
