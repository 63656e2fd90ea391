use Rattle.std.proofs.Common.{◌≤◌}
use Rattle.recog_tree.specs.machine.Tables.{NoneTried}
use Rattle.recog_tree.proofs.tables.next_of.Given as goal

abbrev pub invariant-loop-place : goal.invariant-loop-place
invariant-loop-place l = record {
  none : NoneTried l.keys l.insn l.from l.place;
  behind : l.from ≤ l.place;
}
