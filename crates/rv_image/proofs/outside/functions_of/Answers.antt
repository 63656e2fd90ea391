-- One function more.
use Rattle.rv_image.proofs.Taken.{functions_more}
use Rattle.rv_image.proofs.outside.functions_of.Goals as goal

pub loop-unit-preserved : goal.loop-unit-preserved
loop-unit-preserved c =
    functions_more c.args.units.now c.loop-unit.known c.put.new.self c.loop-unit.unit-index c.unit-item.result c.bytes.result.now c.loop-unit-test.true c.unit-item.is c.bytes.ensures c.loop-unit.invariant c.in_ok-put.ensures
