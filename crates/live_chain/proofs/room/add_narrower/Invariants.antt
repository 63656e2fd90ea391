use Rattle.std.proofs.Common.{◌≡◌, ℕ, ◌-◌, ◌*◌, ◌&&◌, ◌||◌, ltb, length}
use Rattle.reg_rows.specs.Row.{has}
use Rattle.live_chain.proofs.room.add_narrower.Given as goal

abbrev pub invariant-loop-reg : goal.invariant-loop-reg
invariant-loop-reg l = record {
  taken : (other : ℕ) → has l.to other ≡ (has l.initial.to other || (ltb other l.reg && has l.row other));
  width : length l.to ≡ length l.initial.to;
}

abbrev pub decreases-loop-reg : goal.decreases-loop-reg
decreases-loop-reg l = length l.row * 64 - l.reg
