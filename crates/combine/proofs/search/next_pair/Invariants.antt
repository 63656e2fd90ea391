-- No pair can be combined whose second stands in front of the place.
use Rattle.std.proofs.Common.{◌≡◌, ◌-◌, length}
use Rattle.combine.specs.Combine.{NoneBefore}
use Rattle.combine.proofs.search.next_pair.Given as goal

abbrev pub invariant-loop-second : goal.invariant-loop-second
invariant-loop-second l = record {
  none : NoneBefore l.desc l.chain l.second;
  same : l.chain ≡ l.fn.chain;
}

abbrev pub decreases-loop-second : goal.decreases-loop-second
decreases-loop-second l = length l.chain.insns - l.second
