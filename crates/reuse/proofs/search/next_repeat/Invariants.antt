-- No repeated value has its second within the span in front of the place.
use Rattle.std.proofs.Common.{◌≡◌, ◌-◌}
use Rattle.reuse.proofs.Next.{NoneBetween}
use Rattle.reuse.proofs.search.next_repeat.Given as goal

abbrev pub invariant-loop-second : goal.invariant-loop-second
invariant-loop-second l = record {
  none : NoneBetween l.desc l.chain l.fn.span.from l.second;
  same : l.chain ≡ l.fn.chain;
}

abbrev pub decreases-loop-second : goal.decreases-loop-second
decreases-loop-second l = l.end - l.second
