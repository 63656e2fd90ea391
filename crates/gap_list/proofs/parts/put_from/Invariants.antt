-- Those that are put stand behind those that are left, and these are as they were.
use Rattle.std.proofs.Common.{◌≡◌, ◌+◌, ◌≤◌, List, ◌++◌, length, reverse, take, drop}
use Rattle.gap_list.proofs.parts.put_from.Given as goal

abbrev pub invariant-loop-item : goal.invariant-loop-item
invariant-loop-item g l = record {
  list : (done : List _) × (l.fn.new ≡ l.left ++ done) × (l.front.items ++ reverse l.back.items ≡
      take (l.first + length l.left) (l.fn.front.items ++ reverse l.fn.back.items) ++
      (done ++ drop l.behind (l.fn.front.items ++ reverse l.fn.back.items)));
  long : l.front.len + l.back.len ≡ l.fn.front.len + l.fn.back.len;
  room : l.first + length l.left ≤ l.fn.front.len + l.fn.back.len;
  end : l.behind ≡ l.first + length l.fn.new;
}

abbrev pub decreases-loop-item : goal.decreases-loop-item
decreases-loop-item g l = length l.left
