use Rattle.std.proofs.Common.{◌≡◌, drop}
use Rattle.std.specs.List.{list_any}
use Rattle.rtx_tree.specs.Tree.{mentions_reg}
use Rattle.reload_operands.proofs.changes.+mentions.Given as goal

abbrev pub invariant-loop-kid : goal.invariant-loop-kid
invariant-loop-kid l = list_any (mentions_reg l.reg) (drop l.kid-index l.kid-items) ≡ mentions_reg l.reg l.x
