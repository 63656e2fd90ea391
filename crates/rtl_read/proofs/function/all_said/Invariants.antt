use Rattle.std.proofs.Common.{◌≡◌, drop}
use Rattle.rtl_read.specs.machine.Adding.{said_behind}
use Rattle.rtl_read.specs.Function.{all_said}
use Rattle.rtl_read.proofs.function.all_said.Given as goal

abbrev pub invariant-loop-tree : goal.invariant-loop-tree
invariant-loop-tree l = said_behind l.said (all_said (drop l.tree-index l.trees)) ≡ all_said l.trees
