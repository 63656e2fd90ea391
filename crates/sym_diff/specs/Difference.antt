-- An item in which two symbolic states differ.
use Rattle.std.specs.Prelude.{Option, Some, None}
use Rattle.term_tree.specs.Tree.{Tree}
use Rattle.term_text.specs.declared.item.Item.{Item}
use Rattle.sym_state.specs.State.{nothing}

-- an item of which the sides have different terms, or a need of the second that the first has not
pub data Difference : Type 0 where
  Differ : Item → Tree → Tree → Difference
  Lacks : Tree → Difference

-- what is missing on a side is shown as nothing
abbrev pub shown : Option Tree → Tree
shown None = nothing
shown (Some t) = t

-- the first of two
abbrev pub or_else : Option Difference → Option Difference → Option Difference
or_else None other = other
or_else (Some d) other = Some d
