use Rattle.std.proofs.Common.{◌≡◌, ◌++◌}
use Rattle.law_frame.specs.Frame.{epilogue, left_at_returns}
use Rattle.frame.specs.machine.Items.{uids_by}
use Rattle.frame.proofs.insns.add_items.Given as goal

abbrev pub invariant-loop-insn : goal.invariant-loop-insn
invariant-loop-insn l = record {
  put : l.insns ≡ l.fn.insns ++ left_at_returns l.layout l.fn.uid l.yielded;
  number : l.next ≡ uids_by (epilogue l.layout) l.fn.uid l.yielded;
}
