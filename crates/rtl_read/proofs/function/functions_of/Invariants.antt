use Rattle.std.proofs.Common.{◌≡◌, drop}
use Rattle.rtl_read.specs.Syntax.{functions_in}
use Rattle.rtl_read.proofs.Each.{with_front}
use Rattle.rtl_read.proofs.function.functions_of.Given as goal

abbrev pub invariant-loop-tree : goal.invariant-loop-tree
invariant-loop-tree l = with_front l.read (functions_in (drop l.tree-index l.trees)) ≡ functions_in l.trees
