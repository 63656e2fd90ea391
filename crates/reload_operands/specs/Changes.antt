-- What an instruction changes beside an operand: GCC Internals, "Side Effect Expressions". It is
-- asked of each `set` and `clobber` of the instruction itself, whatever the pattern has there.
use Rattle.std.specs.Prelude.{ℕ, Bool, true, false, not, ◌&&◌, ◌||◌, nat_lt, List, [], ◌∷◌, Option, Some, None, option_and_then, slice_get, drop}
use Rattle.std.specs.List.{filter_map, list_any}
use Rattle.std.specs.Option.{option_map_or}
use Rattle.rtx_tree.specs.declared.code.Code.{Code}
use Rattle.rtx_tree.specs.declared.code.Code.TheVariants.{Mem}
use Rattle.rtx_tree.specs.declared.tree.Rtx.{Rtx}
use Rattle.rtx_tree.specs.Tree.{head_of, kids_of, mentions_reg}
pub use Rattle.rtx_tree.specs.Tree.{is_memory_code}
use Rattle.md_constr.specs.Inputs.{effects_of, changed_by, target_of}
use Rattle.rtl_func.specs.Effects.{parallels_change_once}
use Rattle.assign.specs.declared.home.HomeOf.{HomeOf}
use Rattle.reload_homes.specs.Homes.{register_at}
use Rattle.reload_operands.specs.Bases.{lives_in_slot}
use Rattle.reload_operands.specs.Directions.{has_number}
use Rattle.reload_operands.specs.declared.whole.Whole.{Whole}

-- ---- registers of an operand's address

-- the register that an effect changes, or of which it changes the low part
abbrev pub changed_register : Rtx → Option ℕ
changed_register effect = option_and_then register_at (target_of effect)

-- the registers that an instruction's effects change
abbrev pub changed_registers : Rtx → List ℕ
changed_registers insn = filter_map changed_register (effects_of insn)

abbrev pub changes_in : (ℕ → Bool) → Rtx → Rtx → Bool
changes_in test insn address =
    list_any (λ reg. test reg && mentions_reg reg address) (changed_registers insn)

abbrev pub is_hard : ℕ → Bool
is_hard reg = nat_lt reg 32

abbrev pub address_by : Code → List Rtx → Option Rtx
address_by Mem (address ∷ []) = Some address
address_by _ parts = None

-- the address of a memory
abbrev pub address_of : Rtx → Option Rtx
address_of x = address_by (head_of x).code (kids_of x)

-- The instruction changes a hard register of an address, once homes are put in; or, before that, a
-- register of it that lives in a slot and is not its base.
abbrev pub changes_address : List HomeOf → Rtx → Rtx → Bool → Rtx → Rtx → Bool
changes_address homes placed with_homes based x x_with_homes =
    option_map_or (changes_in is_hard with_homes) (address_of x_with_homes) false || (not based && option_map_or (changes_in (lives_in_slot homes) placed) (address_of x) false)

-- an effect changes memory
abbrev pub changes_memory : Rtx → Bool
changes_memory effect =
    option_map_or (λ target. is_memory_code (head_of target).code) (target_of effect) false

-- a place of the operand with a number is what the pattern's effect changes
abbrev pub is_place_of : ℕ → Rtx → Bool
is_place_of k p = has_number k (changed_by p)

-- an effect changes memory that is no place of the operand, by the pattern's effect there
abbrev pub is_other_memory : ℕ → Option Rtx → Rtx → Bool
is_other_memory k p x = changes_memory x && not (option_map_or (is_place_of k) p false)

-- one of some effects does, each by the pattern's effect in its place
abbrev pub any_other_memory : ℕ → List Rtx → List Rtx → Bool
any_other_memory k ps [] = false
any_other_memory k ps (x ∷ xs) =
    is_other_memory k (slice_get ps 0) x || any_other_memory k (drop 1 ps) xs

-- an instruction changes another memory than the operand with a number
abbrev pub other_memory : Rtx → Rtx → ℕ → Bool
other_memory pattern insn k = any_other_memory k (effects_of pattern) (effects_of insn)

-- ---- the whole instruction

-- a parallel changes one register twice
abbrev pub changes_twice : Rtx → Bool
changes_twice insn = not (parallels_change_once insn)

abbrev pub whole_of : Rtx → Rtx → Whole
whole_of placed with_homes = record { twice_before = changes_twice placed; twice_after = changes_twice with_homes }
