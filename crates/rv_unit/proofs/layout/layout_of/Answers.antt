-- What is gathered is the layout.
use Rattle.rv_unit.proofs.Laid.{laid}
use Rattle.rv_unit.proofs.layout.layout_of.Goals as goal

pub returns : goal.returns
returns c =
    laid c.args.items.now c.in_ok-labels.labels c.in_ok-leads.leads c.in_ok-pieces.pieces c.as_slice.result.now c.as_slice-2.result.now c.in_ok-longs.longs.items c.deref.result.now c.from_vec.result c.in_ok-places.places c.item-size.result.now c.in_ok-labels.ensures c.in_ok-leads.ensures c.in_ok-pieces.ensures c.as_slice.ensures.value c.in_ok-longs.ensures.least c.as_slice-2.ensures.value c.deref.ensures.value c.in_ok-places.ensures c.from_vec.ensures c.item-size.ensures
