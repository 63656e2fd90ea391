-- The equation of the fold over a tree's pseudo registers.
use Rattle.std.proofs.Common.{◌≡◌, ℕ, map, List}
use Rattle.std.specs.Prelude.{max}
use Rattle.rtx_tree.specs.Tree.{head_of, kids_of}
use Rattle.rtx_tree.specs.declared.tree.Rtx.{Rtx}
use Rattle.rtx_tree.specs.declared.tree.Rtx.TheFolds.{fold_out-Rtx}
use Rattle.rtl_chain.specs.Counts.{greatest, above_pseudo, pseudo_step, next_pseudo_in}

pub next_pseudo_out : (x : Rtx) → next_pseudo_in x ≡ max (above_pseudo (head_of x).code (head_of x).number) (greatest (map next_pseudo_in (kids_of x)))
next_pseudo_out = fold_out-Rtx ℕ pseudo_step
