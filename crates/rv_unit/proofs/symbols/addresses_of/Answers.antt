-- One symbol more.
use Rattle.rv_unit.proofs.Found.{symbols_more}
use Rattle.rv_unit.proofs.symbols.addresses_of.Goals as goal

pub loop-symbol-preserved : goal.loop-symbol-preserved
loop-symbol-preserved c =
    symbols_more c.args.symbols.now c.as_slice-symbol-items.result.now c.loop-symbol.addresses c.put.new.self c.loop-symbol.symbol-index c.symbol-item.result c.bytes.result.now c.as_slice-symbol-items.ensures.value c.loop-symbol-test.true c.symbol-item.is c.bytes.ensures c.loop-symbol.invariant c.in_ok-put.ensures
