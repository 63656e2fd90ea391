-- Trees under roots, changed in their places: GCC Internals, "RTL Objects". A part is named by the
-- path of kid indices that leads to it.
use Rattle.std.specs.Prelude.{◌≡◌, ◌≢◌, ℕ, ◌+◌, ◌≤◌, ℤ, List, reverse, Option, Some, None, option_and_then}
use Rattle.node_pool.specs.Slots.{value_at, spare_of}
use Rattle.rtx_tree.specs.declared.code.Code.{Code}
use Rattle.rtx_tree.specs.declared.code.Mode.{Mode}
use Rattle.rtx_tree.specs.declared.tree.Rtx.{Rtx}
use Rattle.rtx_tree.specs.Tree.{head_of, kids_of, tree_of, part_at}

-- another code, mode and number; the name and the kids stay
abbrev pub with_head : Code → Mode → ℤ → Rtx → Rtx
with_head code mode number x =
    tree_of (record { code = code; mode = mode; number = number; name = (head_of x).name }) (kids_of x)

-- the kids in the other order
abbrev pub with_kids_turned : Rtx → Rtx
with_kids_turned x = tree_of (head_of x) (reverse (kids_of x))

-- the part of a root's tree at a path, if the root is live and the path exists
abbrev pub part_of : List (Option Rtx) → ℕ → List ℕ → Option Rtx
part_of trees root path = option_and_then (λ tree. part_at tree path) (value_at trees root)

-- The root has this tree now, and every other root what it had. The room is as it was.
pub record IsChanged (old new : List (Option Rtx)) (root : ℕ) (tree : Rtx) : Type 0 where
  pub tree_is : value_at new root ≡ Some tree
  pub others : (other : ℕ) → other ≢ root → value_at new other ≡ value_at old other
  pub room : spare_of new ≡ spare_of old

-- The root, which was free, has this tree, and every other root what it had. The room is by one
-- less, or it grew.
pub record IsPlaced (old new : List (Option Rtx)) (root : ℕ) (tree : Rtx) : Type 0 where
  pub free : value_at old root ≡ None
  pub tree_is : value_at new root ≡ Some tree
  pub others : (other : ℕ) → other ≢ root → value_at new other ≡ value_at old other
  pub room : spare_of old ≤ spare_of new + 1

-- The root is free, and every other root has what it had. The room is by one more.
pub record IsReleased (old new : List (Option Rtx)) (root : ℕ) : Type 0 where
  pub free : value_at new root ≡ None
  pub others : (other : ℕ) → other ≢ root → value_at new other ≡ value_at old other
  pub room : spare_of new ≡ spare_of old + 1

-- The root has this tree now, another is free, and every other root has what it had. The room is by
-- one more.
pub record IsJoined (old new : List (Option Rtx)) (root used : ℕ) (tree : Rtx) : Type 0 where
  pub tree_is : value_at new root ≡ Some tree
  pub free : value_at new used ≡ None
  pub others : (other : ℕ) → other ≢ root → other ≢ used → value_at new other ≡ value_at old other
  pub room : spare_of new ≡ spare_of old + 1
