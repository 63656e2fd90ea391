use Rattle.std.proofs.Common.{arith}
use Rattle.byte_edge.proofs.Known.{stops_past, stops_short}
use Rattle.byte_edge.proofs.source.read_all.Goals as goal

pub returns-then-count-limit-clause-stops : goal.returns-then-count-limit-clause-stops
returns-then-count-limit-clause-stops g c =
    stops_past _ _ _ c.loop-count.bytes.items c.read.new.into c.in-Ok.count c.args.limit
    c.loop-count.invariant.taken c.in-Ok.ensures.bytes.0 c.in-Ok.ensures.bound (omega (arith, c.loop-count.bytes.ok.0))

pub returns-in_err-extend_from_slice-clause-stops :
    goal.returns-in_err-extend_from_slice-clause-stops
returns-in_err-extend_from_slice-clause-stops g c =
    stops_short c.from_residual.result _ _ _ c.loop-count.bytes.items c.read.new.into c.in-Ok.count c.args.limit c.from_residual.ensures
    c.loop-count.invariant.taken c.in-Ok.ensures.bytes.0 c.in-Ok.ensures.bound (omega (arith, c.loop-count.bytes.ok.0))
