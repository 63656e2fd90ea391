use Rattle.std.proofs.Common.{◌≡◌, drop}
use Rattle.std.specs.List.{list_all}
use Rattle.rtl_func.specs.machine.TreeRules.{trees_keep}
use Rattle.rtl_func.proofs.trees.+trees_keep.Given as goal

abbrev pub invariant-loop-kid : goal.invariant-loop-kid
invariant-loop-kid l = list_all (trees_keep l.rule) (drop l.kid-index l.kid-items) ≡ trees_keep l.rule l.x
