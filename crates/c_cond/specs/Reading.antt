-- What the grammar makes of a text, as a value: its tree, or none where it has none. The type of a
-- reading is its definition, since all readings have the same value: nobody has to look at how one
-- is made.
use Rattle.std.specs.Prelude.{◌≡◌, ◌↔◌, Option, Some}
use Rattle.c_cond.specs.declared.tree.Tree.{Tree}

-- a tree is the value exactly where it is one of these
pub record Reading (IsTree : Tree → Type 0) : Type 0 where
  pub value : Option Tree
  pub is : (t : Tree) → (value ≡ Some t) ↔ IsTree t

-- there is no other value
abbrev pub OneReading : (Tree → Type 0) → Type 0
OneReading IsTree = (a b : Reading IsTree) → a.value ≡ b.value
