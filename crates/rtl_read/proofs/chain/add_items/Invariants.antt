use Rattle.std.proofs.Common.{◌≡◌, drop}
use Rattle.rtl_read.specs.machine.Adding.{behind}
use Rattle.rtl_read.specs.Chain.{items_joined}
use Rattle.rtl_read.proofs.chain.add_items.Given as goal

abbrev pub invariant-loop-tree : goal.invariant-loop-tree
invariant-loop-tree l = behind l.insns (items_joined (drop l.tree-index l.trees)) ≡ behind l.initial.insns (items_joined l.trees)
