use Rattle.std.proofs.Common.{refl}
use Rattle.md_iter.proofs.Places.{behind_is, within_rest, found_next}
use Rattle.md_iter.proofs.choice.choice_at.Goals as goal

pub loop-iterator-preserved : goal.loop-iterator-preserved
loop-iterator-preserved c = record {
  block = behind_is _ c.loop-iterator.iterator-index c.iterator-item.result c.loop-iterator.block c.loop-iterator.at _ c.loop-iterator-test.true c.iterator-item.is c.len-block.ensures c.loop-iterator.invariant.block c.loop-iterator.invariant.at;
  at = within_rest _ c.loop-iterator.iterator-index c.iterator-item.result c.loop-iterator.block c.loop-iterator.at _ c.loop-iterator-test.true c.iterator-item.is c.len-block.ensures c.loop-iterator.invariant.block c.loop-iterator.invariant.at;
  found = found_next _ c.loop-iterator.iterator-index c.iterator-item.result c.loop-iterator.block c.loop-iterator.at _ c.loop-iterator-test.true c.iterator-item.is c.len-block.ensures c.loop-iterator.invariant.block c.loop-iterator.invariant.at c.loop-iterator.choices.items _ c.item.result _ _ c.in_ok-push.ensures.items c.item.ensures refl c.loop-iterator.invariant.found;
}
