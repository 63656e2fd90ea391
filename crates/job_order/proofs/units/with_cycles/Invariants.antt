use Rattle.std.proofs.Common.{◌≡◌, ◌-◌, ◌≤◌, ◌++◌, length, max, replicate}
use Rattle.job_order.proofs.units.with_cycles.Given as goal

abbrev pub invariant-loop-all : goal.invariant-loop-all
invariant-loop-all l = record {
  items : l.all ≡ l.initial.all ++ replicate (length l.all - length l.initial.all) 0;
  low : length l.initial.all ≤ length l.all;
  high : length l.all ≤ max (length l.initial.all) l.count;
}

abbrev pub decreases-loop-all : goal.decreases-loop-all
decreases-loop-all l = l.count - length l.all
