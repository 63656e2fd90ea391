use Rattle.std.proofs.Common.{◌≡◌, ℕ, ◌+◌, ◌≤◌, ◌++◌, map, replicate, None}
use Rattle.node_pool.specs.machine.Links.{value_of, Links}
use Rattle.node_pool.proofs.slot.add_free.Given as goal

abbrev pub invariant-loop : goal.invariant-loop
invariant-loop g l = record {
  values : map value_of l.slots.items ≡ map value_of l.fn.slots.items ++ replicate l.counter None;
  links : (free : ℕ) → Links l.fn.slots.items free l.fn.first → Links l.slots.items (free + l.counter) l.next;
  long : l.slots.len ≡ l.fn.slots.len + l.counter;
  room : l.fn.slots.len + l.count ≤ l.slots.cap;
}
