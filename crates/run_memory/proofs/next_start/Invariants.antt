use Rattle.std.proofs.Common.{◌≡◌, ◌<◌, ◌≤◌, ℕ, false, take}
use Rattle.run_memory.specs.RunMemory.{is_visible}
use Rattle.run_memory.proofs.next_start.Given as goal

abbrev pub invariant-loop-range : goal.invariant-loop-range
invariant-loop-range l = is_visible (take l.range-index l.range-items) l.address ≡ false → (between : ℕ) → l.address ≤ between → between < l.next → is_visible (take l.range-index l.range-items) between ≡ false
