-- No repeated value with the second has its first at the place or behind it, and what stands there keeps what the second sets its place to.
use Rattle.std.proofs.Common.{◌≡◌, ◌-◌, ◌≤◌}
use Rattle.reuse.specs.machine.Found.{NoneFrom, KeptFrom}
use Rattle.reuse.proofs.search.last_repeat.Given as goal

abbrev pub invariant-loop-first : goal.invariant-loop-first
invariant-loop-first l = record {
  none : NoneFrom l.desc l.chain l.second l.first;
  kept : KeptFrom l.chain l.first l.second;
  same : l.chain ≡ l.fn.chain;
  upto : l.first ≤ l.second;
}

abbrev pub decreases-loop-first : goal.decreases-loop-first
decreases-loop-first l = l.first - l.least
