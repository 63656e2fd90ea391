-- Registers replaced by their homes: GCC Internals, "RTL passes" (reload), "Registers and Memory"
-- (`reg`, `subreg`, `mem`).
use Rattle.std.specs.Prelude.{ℕ, ℤ, pos, ◌==◌, List, [], ◌∷◌, map, Option, Some, None, option_map, unwrap_or}
use Rattle.std.specs.List.{find}
use Rattle.std.specs.List.Sorted.{IsStrictlyIncreasing}
use Rattle.std.specs.Option.{option_map_or}
use Rattle.rtx_tree.specs.declared.code.Code.{Code}
use Rattle.rtx_tree.specs.declared.code.Code.TheVariants.{Reg, Mem, Subreg}
use Rattle.rtx_tree.specs.declared.code.Mode.{Mode}
use Rattle.rtx_tree.specs.declared.code.Mode.TheVariants.{DI}
use Rattle.rtx_tree.specs.declared.tree.Rtx.{Rtx}
use Rattle.rtx_tree.specs.Registers.{pseudo}
use Rattle.rtx_tree.specs.Tree.{head_of, kids_of, tree_of, node_of, reg_of}
use Rattle.assign.specs.declared.home.Home.{Home}
use Rattle.assign.specs.declared.home.Home.TheVariants.{Hard, Slot}
use Rattle.assign.specs.declared.home.HomeOf.{HomeOf}
use Rattle.assign.specs.declared.places.Layout.{Layout}
use Rattle.assign.specs.declared.places.SlotAt.{SlotAt}
use Rattle.assign.specs.Homes.{register, pseudos}
use Rattle.reload_homes.specs.FrameRefs.{from_sp}
use Rattle.reload_homes.specs.Rewritten.{rewritten}

-- ---- where registers live

-- the home that is listed for a register
abbrev pub home_at : List HomeOf → ℕ → Option Home
home_at homes reg = option_map (λ x. x.home) (find (λ x. register x == reg) homes)

-- the home of a register; one for which none is listed lives in itself, as a hard register does
abbrev pub home_of : List HomeOf → ℕ → Home
home_of homes reg = unwrap_or (home_at homes reg) (Hard reg)

-- the register whose slot it is
abbrev pub holds : SlotAt → ℕ
holds s = pseudo s.pseudo

-- the offset from sp of a register's slot; a register without one has 0
abbrev pub slot_offset : Layout → ℕ → ℕ
slot_offset layout reg = option_map_or (λ s. s.offset) (find (λ s. holds s == reg) layout.slots) 0

-- the address of a register's slot
abbrev pub slot_address : Layout → ℕ → Rtx
slot_address layout reg = from_sp DI (pos (slot_offset layout reg))

-- ---- what stands for a register in a mode

abbrev pub place_by : Layout → Mode → ℕ → Home → Rtx
place_by layout mode reg (Hard hard) = reg_of mode hard
place_by layout mode reg Slot = node_of Mem mode (slot_address layout reg ∷ [])

-- the hard register in which it lives, or the memory of its slot
abbrev pub place_for : List HomeOf → Layout → Mode → ℕ → Rtx
place_for homes layout mode reg = place_by layout mode reg (home_of homes reg)

-- ---- trees

abbrev pub register_numbered : Code → ℤ → Option ℕ
register_numbered Reg (pos reg) = Some reg
register_numbered _ number = None

-- the register that a tree is
abbrev pub register_in : Rtx → Option ℕ
register_in x = register_numbered (head_of x).code (head_of x).number

abbrev pub register_by : Code → Rtx → List Rtx → Option ℕ
register_by Subreg x (inner ∷ []) = register_in inner
register_by _ x parts = register_in x

-- the register that a tree is, or of which it is the low part
abbrev pub register_at : Rtx → Option ℕ
register_at x = register_by (head_of x).code x (kids_of x)

-- a register, or the low part of one, becomes what stands for the register in the tree's mode; any
-- other tree has its parts as they have become
abbrev pub homed_as : List HomeOf → Layout → Rtx → List Rtx → Rtx
homed_as homes layout x parts = option_map_or (place_for homes layout (head_of x).mode) (register_at x) (tree_of (head_of x) parts)

-- a tree with the homes of its registers put in
abbrev pub homed : List HomeOf → Layout → Rtx → Rtx
homed homes layout = rewritten (homed_as homes layout)

-- ---- lists of homes and of slots are in increasing number

pub record AreOrdered (homes : List HomeOf) (layout : Layout) : Type 0 where
  pub by_home : IsStrictlyIncreasing (pseudos homes)
  pub by_slot : IsStrictlyIncreasing (map (λ s. s.pseudo) layout.slots)
