use Rattle.std.proofs.Common.{◌<◌, ◌≤◌, ◌-◌, ℕ, length}
use Rattle.rtx_tree.specs.Memories.{address_at}
use Rattle.rtx_tree.proofs.memories.place_of.Given as goal

abbrev pub invariant-loop-low : goal.invariant-loop-low
invariant-loop-low l = record {
  ends : l.low ≤ l.high;
  within : l.high ≤ length l.bytes;
  below : (k : ℕ) → k < l.low → address_at l.bytes k < l.address;
  above : (k : ℕ) → l.high ≤ k → k < length l.bytes → l.address < address_at l.bytes k;
}

abbrev pub decreases-loop-low : goal.decreases-loop-low
decreases-loop-low l = l.high - l.low
