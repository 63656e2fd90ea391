use Rattle.std.proofs.Common.{◌≡◌, drop}
use Rattle.rtl_read.specs.machine.Adding.{behind}
use Rattle.rtl_read.specs.Chain.{entries_of}
use Rattle.rtl_read.proofs.chain.add_entries.Given as goal

abbrev pub invariant-loop-tree : goal.invariant-loop-tree
invariant-loop-tree l = behind l.insns (entries_of (drop l.tree-index l.trees)) ≡ behind l.initial.insns (entries_of l.trees)
