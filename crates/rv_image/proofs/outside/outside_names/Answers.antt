-- One function more, and all of them.
use Rattle.std.proofs.Common.{arith, ◌+◌, take}
use Rattle.std.specs.List.{flat_map}
use Rattle.rv_image.specs.Image.{item_symbols, symbols_named}
use Rattle.rv_image.proofs.Taken.{takes_then, symbols_more, outside_end}
use Rattle.rv_image.proofs.outside.outside_names.Goals as goal

pub loop-unit-preserved : goal.loop-unit-preserved
loop-unit-preserved c =
    let units = c.args.units.now in
    let at = c.loop-unit.unit-index in
    let lent = c.as_slice.result.now in
    takes_then c.in_ok-known.known c.new-names.result c.loop-unit.known c.loop-unit.names c.put_items.new.known c.put_items.new.names (symbols_named (take at units)) (flat_map item_symbols lent) (symbols_named (take (at + 1) units)) (symbols_more units at c.unit-item.result lent c.loop-unit-test.true c.unit-item.is c.as_slice.ensures.value) c.loop-unit.invariant c.in_ok-put_items.ensures

pub returns : goal.returns
returns c =
    outside_end c.args.units.now c.in_ok-known.known c.loop-unit.known c.new-names.result c.loop-unit.names c.loop-unit.unit-index c.new-names.ensures c.in_ok-known.ensures (omega arith) c.loop-unit.invariant
