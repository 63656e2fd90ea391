use Rattle.std.proofs.Common.{arith}
use Rattle.rtx_tree.proofs.MemoryPlaces.{none_between, below_middle, above_middle}
use Rattle.rtx_tree.proofs.memories.place_of.Goals as goal

pub loop-low-preserved-then-found-address-2 : goal.loop-low-preserved-then-found-address-2
loop-low-preserved-then-found-address-2 c = record {
  ends = omega arith;
  within = omega arith;
  below = below_middle _ c.requires _ _ (omega arith) c.if-found-address-2.true;
  above = c.loop-low.invariant.above;
}

pub loop-low-preserved : goal.loop-low-preserved
loop-low-preserved c = record {
  ends = omega arith;
  within = omega arith;
  below = c.loop-low.invariant.below;
  above = above_middle _ c.requires _ _ (omega arith);
}

pub returns : goal.returns
returns c = none_between _ _ _ _ c.loop-low-test.false c.loop-low.invariant.below c.loop-low.invariant.above
