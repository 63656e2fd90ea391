use Rattle.std.proofs.Common.{◌≡◌, ℕ, ◌-◌, ◌*◌, ◌||◌, ◌&&◌, eqb, ltb, length}
use Rattle.reg_rows.specs.Row.{has}
use Rattle.reg_rows.specs.Table.{has_at}
use Rattle.reg_conflicts.specs.machine.Sparse.{AreSparse}
use Rattle.reg_conflicts.proofs.mark.mark_others.Given as goal

abbrev pub invariant-loop-other : goal.invariant-loop-other
invariant-loop-other l = record {
  sparse : AreSparse (length l.set) l.rows;
  each : (x y : ℕ) → has_at l.rows x y ≡ (has_at l.fn.rows x y || ((ltb x l.other && has l.set x) && eqb l.reg y));
}

abbrev pub decreases-loop-other : goal.decreases-loop-other
decreases-loop-other l = length l.set * 64 - l.other
