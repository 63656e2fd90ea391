use Rattle.std.proofs.Common.{◌≡◌, ℕ, false, vec_len}
use Rattle.live_rows.specs.machine.Waiting.{listed_at}
use Rattle.live_rows.proofs.back.empty_lists.Given as goal

abbrev pub invariant-loop-place : goal.invariant-loop-place
invariant-loop-place l = record {
  long : vec_len l.back ≡ l.place;
  none : (p q : ℕ) → listed_at l.back.items p q ≡ false;
}
