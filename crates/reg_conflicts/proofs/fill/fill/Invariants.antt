use Rattle.std.proofs.Common.{◌≡◌, length}
use Rattle.reg_conflicts.specs.machine.Sparse.{AreSparse}
use Rattle.reg_conflicts.proofs.FillLaws.{AreFound}
use Rattle.reg_conflicts.proofs.fill.fill.Given as goal

abbrev pub invariant-loop-at : goal.invariant-loop-at
invariant-loop-at l = record {
  width : length l.set ≡ length l.fn.set;
  sparse : AreSparse (length l.fn.set) l.rows;
  found : AreFound l.f l.at l.rows;
}
