use Rattle.std.proofs.Common.{◌≡◌, ℕ, ◌||◌, ◌&&◌, length, drop}
use Rattle.rtx_tree.specs.RegSet.{has_reg}
use Rattle.reg_rows.specs.Row.{has}
use Rattle.reg_rows.specs.Table.{has_at}
use Rattle.reg_conflicts.specs.machine.Sparse.{AreSparse}
use Rattle.reg_conflicts.proofs.mark.mark.Given as goal

abbrev pub invariant-loop-reg : goal.invariant-loop-reg
invariant-loop-reg l = record {
  sparse : AreSparse (length l.set) l.rows;
  each : (x y : ℕ) → (has_at l.rows x y || ((has l.set y && has_reg (drop l.reg-index l.regs) x) || (has l.set x && has_reg (drop l.reg-index l.regs) y))) ≡ (has_at l.fn.rows x y || ((has l.set y && has_reg l.regs x) || (has l.set x && has_reg l.regs y)));
}
