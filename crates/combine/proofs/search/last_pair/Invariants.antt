-- No pair with the second can be combined whose first stands at the place or behind it.
use Rattle.std.proofs.Common.{◌≡◌, ◌-◌, ◌≤◌}
use Rattle.combine.specs.machine.Found.{NoneFrom}
use Rattle.combine.proofs.search.last_pair.Given as goal

abbrev pub invariant-loop-first : goal.invariant-loop-first
invariant-loop-first l = record {
  none : NoneFrom l.desc l.chain l.second l.first;
  same : l.chain ≡ l.fn.chain;
  upto : l.first ≤ l.second;
}

abbrev pub decreases-loop-first : goal.decreases-loop-first
decreases-loop-first l = l.first - l.least
