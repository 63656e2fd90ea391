-- One function more.
use Rattle.std.proofs.Common.{arith}
use Rattle.rv_image.specs.machine.Steps.{words_by}
use Rattle.rv_image.proofs.Laid.{same_length, laid_here, words_more}
use Rattle.rv_image.proofs.units.words_of.Goals as goal

pub bounds-layouts-at : goal.bounds-layouts-at
bounds-layouts-at c = omega (arith, same_length c.args.units.now c.args.layouts.now c.requires)

pub push_unit-requires : goal.push_unit-requires
push_unit-requires c =
    laid_here c.args.units.now c.args.layouts.now c.loop-at.at c.index-units-at.result c.index-layouts-at.result c.as_slice.result.now c.requires c.loop-at-test.true c.index-units-at.is c.index-layouts-at.is c.as_slice.ensures.value

pub loop-at-preserved : goal.loop-at-preserved
loop-at-preserved c =
    words_more c.args.symbols.now c.args.units.now c.args.layouts.now c.loop-at.at c.loop-at.words c.push_unit.new.words (words_by c.args.symbols.now c.args.units.now c.args.layouts.now) c.index-units-at.result c.index-layouts-at.result c.as_slice.result.now c.requires c.loop-at-test.true c.index-units-at.is c.index-layouts-at.is c.as_slice.ensures.value c.in_ok-push_unit.ensures c.loop-at.invariant
