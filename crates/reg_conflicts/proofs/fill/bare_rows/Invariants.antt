use Rattle.std.proofs.Common.{◌≡◌, vec_len, length}
use Rattle.std.specs.Prelude.{All}
use Rattle.reg_conflicts.proofs.fill.bare_rows.Given as goal

abbrev pub invariant-loop-place : goal.invariant-loop-place
invariant-loop-place l = record {
  long : vec_len l.rows ≡ l.place;
  bare : All (λ row. length row ≡ 0) l.rows.items;
}
