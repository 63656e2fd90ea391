-- What is shown of a tree.
use Rattle.std.specs.Prelude.{length}
use Rattle.rtx_tree.specs.declared.tree.Rtx.{Rtx}
use Rattle.rtx_tree.specs.Tree.{head_of, kids_of}
use Rattle.rtx_pool.specs.declared.head.RtxHead.{RtxHead}

-- its code, mode and number, and how many kids it has
abbrev pub shown : Rtx → RtxHead
shown x = record { code = (head_of x).code; mode = (head_of x).mode; number = (head_of x).number; kids = length (kids_of x) }
