use Rattle.std.proofs.Common.{◌≡◌, ◌+◌, ◌≤◌, ◌++◌, reverse, take, drop}
use Rattle.gap_list.proofs.parts.out_from.Given as goal

abbrev pub invariant-loop : goal.invariant-loop
invariant-loop g l = record {
  list : l.front.items ++ reverse l.back.items ≡
      take l.at (l.fn.front.items ++ reverse l.fn.back.items) ++ drop (l.at + l.counter) (l.fn.front.items ++ reverse l.fn.back.items);
  long : (l.front.len + l.back.len) + l.counter ≡ l.fn.front.len + l.fn.back.len;
  room : l.at + l.count ≤ l.fn.front.len + l.fn.back.len;
}
