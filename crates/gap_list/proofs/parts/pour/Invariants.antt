use Rattle.std.proofs.Common.{◌≡◌, ◌+◌, ◌≤◌, ◌++◌, reverse}
use Rattle.gap_list.proofs.parts.pour.Given as goal

abbrev pub invariant-loop : goal.invariant-loop
invariant-loop g l = record {
  same : l.to.items ++ reverse l.from.items ≡ l.fn.to.items ++ reverse l.fn.from.items;
  left : l.from.len + l.counter ≡ l.fn.from.len;
  moved : l.to.len ≡ l.fn.to.len + l.counter;
  room : l.fn.to.len + l.count ≤ l.to.cap;
}
