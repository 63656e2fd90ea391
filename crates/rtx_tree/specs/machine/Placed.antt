-- Operands as they are kept: each tree that is there, with its number.
use Rattle.std.specs.Prelude.{ℕ, List, [], ◌∷◌, Option}
use Rattle.rtx_tree.specs.declared.tree.Rtx.{Rtx}
use Rattle.rtx_tree.specs.Operands.{put_at}

-- each tree at its number; of two with one number the first counts
abbrev pub placed : List (ℕ × Rtx) → List (Option Rtx)
placed [] = []
placed (o ∷ os) = put_at (placed os) o.0 o.1
