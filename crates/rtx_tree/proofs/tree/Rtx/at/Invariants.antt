use Rattle.std.proofs.Common.{◌≡◌, drop}
use Rattle.rtx_tree.specs.Tree.{part_at}
use Rattle.rtx_tree.proofs.tree.Rtx.at.Given as goal

abbrev pub invariant-loop-index : goal.invariant-loop-index
invariant-loop-index l = part_at l.part (drop l.index-index l.index-items) ≡ part_at l.self l.path
