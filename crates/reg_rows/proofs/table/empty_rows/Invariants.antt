use Rattle.std.proofs.Common.{◌≡◌, ℕ, vec_len, false, sum, length}
use Rattle.std.specs.Prelude.{All}
use Rattle.reg_rows.specs.Row.{has}
use Rattle.reg_rows.proofs.table.empty_rows.Given as goal

abbrev pub invariant-loop-place : goal.invariant-loop-place
invariant-loop-place l = record {
  long : vec_len l.rows ≡ l.place;
  widths : All (λ row. length row ≡ l.width) l.rows.items;
  none : All (λ row. (reg : ℕ) → has row reg ≡ false) l.rows.items;
  zero : All (λ row. sum row ≡ 0) l.rows.items;
}
