use Rattle.std.proofs.Common.{slice_set}
use Rattle.rtx_tree.specs.Tree.{kids_of}
use Rattle.rtx_simple.proofs.Front.{head_put, kids_put}
use Rattle.rtx_simple.proofs.simple.+simplify_parts.Goals as goal

pub loop-i-preserved : goal.loop-i-preserved
loop-i-preserved t c = record {
  head = head_put c.loop-i.x c.args.x.now (slice_set (kids_of c.loop-i.x) c.loop-i.i c.simplify_parts.new.x) c.loop-i.invariant.head;
  kids = kids_put c.args.x.now c.loop-i.x c.item_mut.result.now c.simplify_parts.new.x c.loop-i.i c.loop-i.invariant.kids c.item_mut.ensures.value c.simplify_parts.ensures;
}
