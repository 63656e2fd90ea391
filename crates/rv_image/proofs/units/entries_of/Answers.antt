-- One function more.
use Rattle.std.proofs.Common.{arith}
use Rattle.rv_image.specs.Image.{first_entry}
use Rattle.rv_image.specs.machine.Steps.{entries_in}
use Rattle.rv_image.proofs.Laid.{same_length, entries_more}
use Rattle.rv_image.proofs.units.entries_of.Goals as goal

pub bounds-layouts-at : goal.bounds-layouts-at
bounds-layouts-at c = omega (arith, same_length c.args.units.now c.args.layouts.now c.requires)

pub bounds-layouts-at-in_ok-push : goal.bounds-layouts-at-in_ok-push
bounds-layouts-at-in_ok-push c =
    omega (arith, same_length c.args.units.now c.args.layouts.now c.requires)

pub loop-at-preserved : goal.loop-at-preserved
loop-at-preserved c =
    entries_more c.args.units.now c.args.layouts.now c.loop-at.at c.loop-at.address c.in_ok-address.address c.loop-at.entries c.push.new.self (entries_in first_entry c.args.units.now c.args.layouts.now) c.index-units-at.result c.index-layouts-at.result c.in_ok-name.name c.requires c.loop-at-test.true c.index-units-at.is c.index-layouts-at.is c.in_ok-name.ensures c.in_ok-push.ensures.ok c.in_ok-address.ensures c.loop-at.invariant
