use Rattle.std.proofs.Common.{◌≡◌, drop}
use Rattle.rtl_read.proofs.Each.{with_front}
use Rattle.rtl_read.proofs.Kept.{kept_patterns}
use Rattle.rtl_read.proofs.call.kept.Given as goal

abbrev pub invariant-loop-tree : goal.invariant-loop-tree
invariant-loop-tree l = with_front l.read (kept_patterns (drop l.tree-index l.trees)) ≡ kept_patterns l.trees
