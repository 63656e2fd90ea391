use Rattle.std.proofs.Common.{◌∙◌}
use Rattle.byte_edge.proofs.Known.{takes_more}
use Rattle.byte_edge.proofs.sink.write_all_of.Goals as goal

pub loop-rest-preserved : goal.loop-rest-preserved
loop-rest-preserved g c = record {
  taken = takes_more _ _ _ _ _ c.in_ok-count.count c.loop-rest.invariant.taken c.in_ok-count.ensures.bytes;
  count = c.in_ok-count.ensures.cause.stays ∙ c.loop-rest.invariant.count;
}
