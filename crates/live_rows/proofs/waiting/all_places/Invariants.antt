use Rattle.std.proofs.Common.{◌≡◌, ℕ, ◌+◌, ◌/◌, ◌<◌, true, length}
use Rattle.reg_rows.specs.Row.{has}
use Rattle.live_rows.proofs.waiting.all_places.Given as goal

abbrev pub invariant-loop-place : goal.invariant-loop-place
invariant-loop-place l = record {
  width : length l.row ≡ l.count / 64 + 1;
  each : (place : ℕ) → place < l.place → has l.row place ≡ true;
}
