-- What an instruction does to registers and memory: GCC Internals, "Side Effect Expressions".
-- All values and addresses are taken in the state before it; then all effects are made.
use Rattle.std.specs.Prelude.{ℕ, ℤ, List, [], ◌∷◌, Option, Some, None, option_map, option_and_then, is_some, unwrap_or, if◌then◌else◌}
use Rattle.std.specs.Int.{cast_unsigned, w64}
use Rattle.bits64.specs.declared.Width.{Width}
use Rattle.bits64.specs.declared.Width.TheVariants.{W64}
use Rattle.rtx_tree.specs.declared.code.Code.{Code}
use Rattle.rtx_tree.specs.declared.code.Code.TheVariants.{Reg, Subreg, Mem, Scratch, Set, Use, Clobber, Parallel}
use Rattle.rtx_tree.specs.declared.memories.MemByte.{MemByte}
use Rattle.rtx_tree.specs.declared.machine.SymbolAt.{SymbolAt}
use Rattle.rtx_tree.specs.declared.tree.Rtx.{Rtx, out-Rtx}
use Rattle.run_memory.specs.RunMemory.{load, store}
use Rattle.rtl_step.specs.Regs.{Regs, known_of, with_reg, without_reg}
use Rattle.rtl_step.specs.Value.{width_of, of_two, value_of}
use Rattle.rtl_step.specs.declared.effect.Effect.{Effect}
use Rattle.rtl_step.specs.declared.effect.Effect.TheVariants.{Nothing, Sets, Unsets, Stores}

-- a register's number
abbrev pub inner_number : Code → ℤ → Option ℕ
inner_number Reg number = Some (cast_unsigned w64 number)
inner_number _ number = None

abbrev pub inner_register : Rtx → Option ℕ
inner_register x = inner_number (out-Rtx x).code (out-Rtx x).number

-- the register that is a place to be set: itself, or that of which it is a lowpart
abbrev pub register_by : Code → ℤ → List Rtx → Option ℕ
register_by Reg number parts = Some (cast_unsigned w64 number)
register_by Subreg number (inner ∷ []) = inner_register inner
register_by _ number parts = None

abbrev pub register_of : Rtx → Option ℕ
register_of x = register_by (out-Rtx x).code (out-Rtx x).number (out-Rtx x).kids

-- the address of a place in memory
abbrev pub address_part : Code → List Rtx → Option Rtx
address_part Mem (address ∷ []) = Some address
address_part _ parts = None

abbrev pub address_of : Rtx → Option Rtx
address_of x = address_part (out-Rtx x).code (out-Rtx x).kids

-- ---- one effect, by the state before it

-- a register that is set in a width: so many of its low bits are known then
abbrev pub set_register : List SymbolAt → Regs → List MemByte → Rtx → Rtx → Width → Option Effect
set_register symbols regs memory place source w = of_two (λ reg value. Some (Sets reg (known_of w value))) (register_of place) (value_of symbols regs memory source w)

-- memory that is set in a width, where the access is aligned and its bytes are there
abbrev pub set_memory : List SymbolAt → Regs → List MemByte → Rtx → Rtx → Width → Option Effect
set_memory symbols regs memory address source w =
    of_two (λ at value. if is_some (load w memory at) then Some (Stores w at value) else None) (value_of symbols regs memory address W64) (value_of symbols regs memory source w)

abbrev pub set_place : Option Rtx → List SymbolAt → Regs → List MemByte → Rtx → Rtx → Width →
    Option Effect
set_place None symbols regs memory place source w = set_register symbols regs memory place source w
set_place (Some address) symbols regs memory place source w =
    set_memory symbols regs memory address source w

-- (set PLACE SOURCE)
abbrev pub set_effect : List SymbolAt → Regs → List MemByte → Rtx → Rtx → Option Effect
set_effect symbols regs memory place source = option_and_then (set_place (address_of place) symbols regs memory place source) (width_of (out-Rtx place).mode)

-- (clobber PLACE): a register is unset; memory is left, and a scratch is none
abbrev pub clobber_by : Code → Option ℕ → Option Effect
clobber_by Mem reg = Some Nothing
clobber_by Scratch reg = Some Nothing
clobber_by _ reg = option_map Unsets reg

abbrev pub clobber_effect : Rtx → Option Effect
clobber_effect place = clobber_by (out-Rtx place).code (register_of place)

abbrev pub effect_by : Code → List Rtx → List SymbolAt → Regs → List MemByte → Option Effect
effect_by Set (place ∷ source ∷ []) symbols regs memory =
    set_effect symbols regs memory place source
effect_by Use (x ∷ []) symbols regs memory = Some Nothing
effect_by Clobber (place ∷ []) symbols regs memory = clobber_effect place
effect_by _ parts symbols regs memory = None

-- the effect of a `set`, a `use` or a `clobber`, or none where a value or address has none
abbrev pub effect_of : List SymbolAt → Regs → List MemByte → Rtx → Option Effect
effect_of symbols regs memory x = effect_by (out-Rtx x).code (out-Rtx x).kids symbols regs memory

-- ---- the effects of an instruction

-- each part's effect, all by one state
abbrev pub all_effects : List SymbolAt → Regs → List MemByte → List Rtx → Option (List Effect)
all_effects symbols regs memory [] = Some []
all_effects symbols regs memory (x ∷ xs) = option_and_then (λ e. option_map (λ es. e ∷ es) (all_effects symbols regs memory xs)) (effect_of symbols regs memory x)

-- the effect of a part that stands alone
abbrev pub one_effect : List SymbolAt → Regs → List MemByte → Rtx → Option (List Effect)
one_effect symbols regs memory x = option_map (λ e. e ∷ []) (effect_of symbols regs memory x)

abbrev pub effects_by : Code → Rtx → List SymbolAt → Regs → List MemByte → Option (List Effect)
effects_by Parallel x symbols regs memory = all_effects symbols regs memory (out-Rtx x).kids
effects_by _ x symbols regs memory = one_effect symbols regs memory x

-- the effects of an instruction that goes on to the next, or none where a value or address has none
abbrev pub effects_of : List SymbolAt → Regs → List MemByte → Rtx → Option (List Effect)
effects_of symbols regs memory x = effects_by (out-Rtx x).code x symbols regs memory

-- ---- effects that are made

abbrev pub reg_after : Effect → Regs → Regs
reg_after (Sets reg known) regs = with_reg regs reg known
reg_after (Unsets reg) regs = without_reg regs reg
reg_after _ regs = regs

abbrev pub regs_after : List Effect → Regs → Regs
regs_after [] regs = regs
regs_after (e ∷ es) regs = regs_after es (reg_after e regs)

abbrev pub bytes_after : Effect → List MemByte → List MemByte
bytes_after (Stores w at value) memory = unwrap_or (store w memory at value) memory
bytes_after _ memory = memory

abbrev pub memory_after : List Effect → List MemByte → List MemByte
memory_after [] memory = memory
memory_after (e ∷ es) memory = memory_after es (bytes_after e memory)
