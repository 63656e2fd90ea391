use Rattle.std.proofs.Common.{◌≤◌, ◌++◌, List, drop, length, reverse}
use Rattle.reg_rows.specs.Row.{has}
use Rattle.rtx_tree.specs.declared.function.Insn.{Insn}
use Rattle.live_chain.specs.Narrow.{AreNarrow}
use Rattle.live_chain.specs.machine.Window.{AreRowsOf}
use Rattle.live_chain.proofs.within.add_rows.Given as goal

abbrev pub invariant-loop-at : goal.invariant-loop-at
invariant-loop-at l = record {
  place : l.at ≤ length l.window;
  rows : (after : List Insn) → AreRowsOf after (has l.behind) (reverse l.fn.rows) → AreRowsOf (drop l.at l.window ++ after) (has l.behind) (reverse l.rows);
  narrow : AreNarrow l.rows;
}

abbrev pub decreases-loop-at : goal.decreases-loop-at
decreases-loop-at l = l.at
