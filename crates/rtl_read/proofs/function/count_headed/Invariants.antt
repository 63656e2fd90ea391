use Rattle.std.proofs.Common.{◌≡◌, take}
use Rattle.std.specs.Prelude.{count_by}
use Rattle.rtl_read.specs.Word.{is_headed}
use Rattle.rtl_read.proofs.function.count_headed.Given as goal

abbrev pub invariant-loop-tree : goal.invariant-loop-tree
invariant-loop-tree l = l.count ≡ count_by (is_headed l.word) (take l.tree-index l.trees)
