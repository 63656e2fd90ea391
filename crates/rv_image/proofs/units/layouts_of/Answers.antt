-- One function more.
use Rattle.rv_image.proofs.Laid.{laid_more}
use Rattle.rv_image.proofs.units.layouts_of.Goals as goal

pub loop-unit-preserved : goal.loop-unit-preserved
loop-unit-preserved c =
    laid_more c.args.units.now c.loop-unit.layouts c.push.new.self c.loop-unit.unit-index c.unit-item.result c.in_ok-layout_of.field-0 c.as_slice.result.now c.loop-unit-test.true c.unit-item.is c.as_slice.ensures.value c.in_ok-layout_of.ensures c.in_ok-push.ensures.ok c.loop-unit.invariant
