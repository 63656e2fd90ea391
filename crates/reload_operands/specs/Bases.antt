-- Registers in slots, and the bases of addresses: GCC Internals, "Addressing Modes" and "Basic
-- Stack Layout".
use Rattle.std.specs.Prelude.{ℕ, ℤ, pos, Bool, true, false, List, [], ◌∷◌, Option, Some, None, if◌then◌else◌, option_and_then}
use Rattle.std.specs.Option.{option_map_or}
use Rattle.rtx_tree.specs.declared.code.Code.{Code}
use Rattle.rtx_tree.specs.declared.code.Code.TheVariants.{Mem, Plus}
use Rattle.rtx_tree.specs.declared.code.Mode.{Mode}
use Rattle.rtx_tree.specs.declared.code.Mode.TheVariants.{DI}
use Rattle.rtx_tree.specs.declared.tree.Rtx.{Rtx}
use Rattle.rtx_tree.specs.Tree.{head_of, kids_of}
use Rattle.md_operand.specs.Operand.{is_constant}
use Rattle.assign.specs.declared.home.Home.{Home}
use Rattle.assign.specs.declared.home.Home.TheVariants.{Hard, Slot}
use Rattle.assign.specs.declared.home.HomeOf.{HomeOf}
use Rattle.assign.specs.declared.places.Layout.{Layout}
use Rattle.reload_homes.specs.Homes.{home_of, slot_offset, register_at, register_in}
use Rattle.reload_operands.specs.declared.operand.Base.{Base}

-- ---- registers in slots

abbrev pub is_slot : Home → Bool
is_slot Slot = true
is_slot (Hard hard) = false

-- a register lives in a slot
abbrev pub lives_in_slot : List HomeOf → ℕ → Bool
lives_in_slot homes reg = is_slot (home_of homes reg)

-- a register, or the low part of one, that lives in a slot
abbrev pub in_slot : List HomeOf → Rtx → Bool
in_slot homes x = option_map_or (lives_in_slot homes) (register_at x) false

-- ---- the base of an address: a register in a slot, alone or with a constant added

abbrev pub base_in : List HomeOf → Layout → ℤ → ℕ → Option Base
base_in homes layout added reg = if lives_in_slot homes reg then Some (record { slot = slot_offset layout reg; added = added }) else None

abbrev pub base_with : List HomeOf → Layout → ℤ → Rtx → Option Base
base_with homes layout added x = option_and_then (base_in homes layout added) (register_in x)

abbrev pub base_of_sum : List HomeOf → Layout → List Rtx → Option Base
base_of_sum homes layout (x ∷ constant ∷ []) =
    if is_constant constant then base_with homes layout (head_of constant).number x else None
base_of_sum homes layout _ = None

abbrev pub base_at : List HomeOf → Layout → Code → Rtx → Option Base
base_at homes layout Plus address = base_of_sum homes layout (kids_of address)
base_at homes layout _ address = base_with homes layout (pos 0) address

-- an address has mode DI
abbrev pub base_in_mode : Mode → Option Base → Option Base
base_in_mode DI base = base
base_in_mode _ base = None

abbrev pub base_of_address : List HomeOf → Layout → Rtx → Option Base
base_of_address homes layout address =
    base_in_mode (head_of address).mode (base_at homes layout (head_of address).code address)

abbrev pub base_by : List HomeOf → Layout → Code → Rtx → List Rtx → Option Base
base_by homes layout Mem x (address ∷ []) = base_of_address homes layout address
base_by homes layout Plus x parts = base_of_address homes layout x
base_by homes layout _ x parts = None

-- the base of a memory's address, or of a sum that is an address itself
abbrev pub base_of : List HomeOf → Layout → Rtx → Option Base
base_of homes layout x = base_by homes layout (head_of x).code x (kids_of x)
