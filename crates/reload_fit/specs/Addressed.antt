-- Operands with a register in their address: GCC Internals, "Addressing Modes"; RISC-V unprivileged
-- manual, "Load and Store Instructions" (12 bits of offset).
use Rattle.std.specs.Prelude.{ℕ, ℤ, pos, List, [], ◌∷◌, Option, Some, None, if◌then◌else◌}
use Rattle.std.specs.Int.{cast_signed, w64}
use Rattle.std.specs.Option.{option_map_or}
use Rattle.std.specs.Ordering.{int_eq}
use Rattle.rtx_tree.specs.declared.code.Code.{Code}
use Rattle.rtx_tree.specs.declared.code.Code.TheVariants.{Mem, Plus}
use Rattle.rtx_tree.specs.declared.code.Mode.TheVariants.{DI}
use Rattle.rtx_tree.specs.declared.tree.Rtx.{Rtx, out-Rtx}
use Rattle.rtx_tree.specs.Tree.{head_of, tree_of, node_of, reg_of, const_of}
use Rattle.reload_operands.specs.declared.operand.Base.{Base}
use Rattle.reload_operands.specs.declared.operand.Operand.{Operand}
use Rattle.md_operand.specs.Addresses.{is_near}
use Rattle.md_operand.specs.Operand.{is_far}

-- ---- addresses

-- a register plus a number, or the register alone where the number is 0
abbrev pub address_on : ℕ → ℤ → Rtx
address_on reg added = if int_eq added (pos 0) then reg_of DI reg else node_of Plus DI (reg_of DI reg ∷ const_of added ∷ [])

abbrev pub addressed_by : Code → Rtx → Rtx → Rtx
addressed_by Mem address x = tree_of (head_of x) (address ∷ [])
addressed_by _ address x = address

-- a memory at another address; what is no memory is an address itself
abbrev pub addressed : Rtx → Rtx → Rtx
addressed address x = addressed_by (out-Rtx x).code address x

-- the address that a register gives: with what is added to the base in whose place it stands, or by
-- itself
abbrev pub address_in : ℕ → Option Base → Rtx
address_in reg base = option_map_or (λ b. address_on reg b.added) base (reg_of DI reg)

-- an operand with a register in its address, in the place of the base that a slot holds, or else of
-- the address as a whole
abbrev pub on_register : ℕ → Operand → Rtx
on_register reg x = addressed (address_in reg x.base) x.tree

-- ---- how far a far memory is from sp

abbrev pub offset_in_sum : List Rtx → Option ℤ
offset_in_sum (base ∷ offset ∷ []) = Some (out-Rtx offset).number
offset_in_sum parts = None

abbrev pub offset_in_memory : List Rtx → Option ℤ
offset_in_memory (address ∷ []) = offset_in_sum (out-Rtx address).kids
offset_in_memory parts = None

-- what is added to sp in the address of a far memory; any other tree has none
abbrev pub far_offset : Rtx → Option ℤ
far_offset x = if is_far x then offset_in_memory (out-Rtx x).kids else None

-- what is added to sp in the address of the slot that holds a base, as 64 signed bits
abbrev pub slot_offset : Base → ℤ
slot_offset base = cast_signed w64 base.slot

-- what is added to sp where the slot of a base is far; a near one has none
abbrev pub slot_far : Base → Option ℤ
slot_far base = if is_near (slot_offset base) then None else Some (slot_offset base)
