-- Expressions of RTL as trees: GCC Internals, "RTL Objects" and "RTL Expressions".
use Rattle.std.specs.Prelude.{ℕ, suc, ℤ, pos, Bool, true, false, ◌||◌, List, [], ◌∷◌, length, sum, Option, Some, None, IfSome, option_map, option_and_then, slice_get, slice_set}
use Rattle.std.specs.Ordering.{int_eq}
use Rattle.std.specs.List.{list_any}
use Rattle.rtx_tree.specs.Code.{class_of_code, parts_of, HasKids}
use Rattle.rtx_tree.specs.Registers.{virtual_stack_vars}
use Rattle.rtx_tree.specs.declared.code.Code.{Code}
use Rattle.rtx_tree.specs.declared.code.Code.TheVariants.{Reg, ConstInt, Mem}
use Rattle.rtx_tree.specs.declared.code.Mode.{Mode}
use Rattle.rtx_tree.specs.declared.code.Mode.TheVariants.{Void}
use Rattle.rtx_tree.specs.declared.tree.Rtx.{Rtx, out-Rtx, roll-Rtx}
use Rattle.rtx_tree.specs.declared.tree.Rtx.TheOpen.{Rtx-F}
use Rattle.rtx_tree.specs.declared.tree.Rtx.TheFolds.{fold-Rtx}

-- what a tree has besides its kids
pub record RtxHead : Type 0 where
  pub code : Code
  pub mode : Mode
  pub number : ℤ
  pub name : List ℕ

abbrev pub head_of : Rtx → RtxHead
head_of x =
    let o = out-Rtx x in record { code = o.code; mode = o.mode; number = o.number; name = o.name }

abbrev pub kids_of : Rtx → List Rtx
kids_of x = (out-Rtx x).kids

-- the tree has as many kids as the row of its code says
abbrev pub HasItsParts : Rtx → Type 0
HasItsParts x = HasKids (parts_of (class_of_code (out-Rtx x).code)) (length (kids_of x))

-- the tree of a head and kids
abbrev pub tree_of : RtxHead → List Rtx → Rtx
tree_of h kids = roll-Rtx (record { code = h.code; mode = h.mode; number = h.number; name = h.name; kids = kids })

-- the tree of a number alone, as of a register or a constant
abbrev pub leaf_of : Code → Mode → ℤ → Rtx
leaf_of code mode number =
    tree_of (record { code = code; mode = mode; number = number; name = [] }) []

-- the tree of a name alone, as of a symbol
abbrev pub named_of : Code → Mode → List ℕ → Rtx
named_of code mode name =
    tree_of (record { code = code; mode = mode; number = pos 0; name = name }) []

-- the tree of kids alone, as of an operation
abbrev pub node_of : Code → Mode → List Rtx → Rtx
node_of code mode kids =
    tree_of (record { code = code; mode = mode; number = pos 0; name = [] }) kids

-- register number reg in a mode
abbrev pub reg_of : Mode → ℕ → Rtx
reg_of mode reg = leaf_of Reg mode (pos reg)

-- a constant, which has no mode
abbrev pub const_of : ℤ → Rtx
const_of value = leaf_of ConstInt Void value

-- ---- what a tree is, by its code

abbrev pub is_constant_code : Code → Bool
is_constant_code ConstInt = true
is_constant_code _ = false

-- a constant
abbrev pub is_constant : Rtx → Bool
is_constant x = is_constant_code (out-Rtx x).code

abbrev pub is_memory_code : Code → Bool
is_memory_code Mem = true
is_memory_code _ = false

-- a register of this number
abbrev pub is_reg_numbered : Code → ℤ → ℕ → Bool
is_reg_numbered Reg number reg = int_eq number (pos reg)
is_reg_numbered _ number reg = false

-- the register virtual-stack-vars
abbrev pub is_stack_vars : Rtx → Bool
is_stack_vars x = is_reg_numbered (out-Rtx x).code (out-Rtx x).number virtual_stack_vars

-- ---- sizes and parts

-- one, and the sizes of the kids
abbrev pub size_step : Rtx-F ℕ → ℕ
size_step x = suc (sum x.kids)

-- the number of a tree's nodes
abbrev pub size_of : Rtx → ℕ
size_of = fold-Rtx ℕ size_step

-- the part at a path of kid indices, if the path exists; the empty path is the tree itself
abbrev pub part_at : Rtx → List ℕ → Option Rtx
part_at x [] = Some x
part_at x (k ∷ path) = option_and_then (λ kid. part_at kid path) (slice_get (kids_of x) k)

-- a list with another item at a place, where there is one
abbrev pub changed_at : {A : Type 0} → List A → ℕ → Option A → List A
changed_at items place None = items
changed_at items place (Some item) = slice_set items place item

-- the tree and each part of it has as many kids as the row of its code says
abbrev pub HaveTheirParts : Rtx → Type 0
HaveTheirParts x = (path : List ℕ) → IfSome (part_at x path) HasItsParts

-- the tree with another part at a path of kid indices that exists
abbrev pub replaced_at : List ℕ → Rtx → Rtx → Rtx
replaced_at [] new x = new
replaced_at (k ∷ path) new x =
    tree_of (head_of x) (changed_at (kids_of x) k (option_map (replaced_at path new) (slice_get (kids_of x) k)))

abbrev pub mentions_step : ℕ → Rtx-F Bool → Bool
mentions_step reg x = is_reg_numbered x.code x.number reg || list_any (λ here. here) x.kids

-- a register of this number stands in the tree
abbrev pub mentions_reg : ℕ → Rtx → Bool
mentions_reg reg = fold-Rtx Bool (mentions_step reg)
