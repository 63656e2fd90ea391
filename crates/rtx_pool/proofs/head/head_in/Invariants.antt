use Rattle.std.proofs.Common.{◌≡◌, drop}
use Rattle.rtx_tree.specs.Tree.{part_at}
use Rattle.rtx_pool.proofs.head.head_in.Given as goal

abbrev pub invariant-loop-index : goal.invariant-loop-index
invariant-loop-index l = part_at l.part (drop l.index-index l.path) ≡ part_at l.x l.path
