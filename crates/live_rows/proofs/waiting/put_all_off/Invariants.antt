use Rattle.std.proofs.Common.{◌≡◌, ℕ, ◌||◌, take, length}
use Rattle.reg_rows.specs.Row.{lists}
use Rattle.live_rows.specs.machine.Waiting.{waits}
use Rattle.live_rows.proofs.waiting.put_all_off.Given as goal

abbrev pub invariant-loop-place : goal.invariant-loop-place
invariant-loop-place l = record {
  now : length l.now ≡ length l.fn.now;
  next : length l.next ≡ length l.fn.next;
  each : (other : ℕ) → waits l.at l.now l.next other ≡ (waits l.at l.fn.now l.fn.next other || lists (take l.place-index l.places) other);
}
