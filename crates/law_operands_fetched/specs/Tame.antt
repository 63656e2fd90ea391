-- Effects of an instruction whose homes are put in, which leave alone what stays through the run of
-- a function: GCC Internals, "Basic Stack Layout" and "Register Usage".
use Rattle.std.specs.Prelude.{◌≡◌, ◌≢◌, ℕ, ◌+◌, ◌-◌, ◌≤◌, ◌<◌, true, false, List, [], ◌∷◌}
use Rattle.law_operands_replaced.specs.bits64.Words.{bytes_of}
use Rattle.law_operands_replaced.specs.rtx_tree.RegSet.{has_reg}
use Rattle.law_operands_replaced.specs.rtx_tree.declared.machine.Start.{Start}
use Rattle.rv_regs.specs.Registers.{stack_pointer}
use Rattle.law_operands_replaced.specs.rtl_step.declared.effect.Effect.{Effect}
use Rattle.law_operands_replaced.specs.rtl_step.declared.effect.Effect.TheVariants.{Nothing, Sets, Unsets, Stores}
use Rattle.same_behaviour.specs.Lawful.{is_below_sp}
use Rattle.assign.specs.declared.places.Layout.{Layout}
use Rattle.law_operands_replaced.specs.law_frame.Kept.{preserved_registers, is_saved, is_in_slots}
use Rattle.law_operands_replaced.specs.Spare.{is_spare}

-- a register that is a home: none of sp and t3 to t6, and one that a function preserves only where
-- the frame has a place for it
pub record IsHome (layout : Layout) (reg : ℕ) : Type 0 where
  pub no_pointer : reg ≢ stack_pointer
  pub no_spare : is_spare reg ≡ false
  pub preserved : has_reg preserved_registers reg ≡ true → is_saved layout reg ≡ true

-- an address of the room below sp that is in no slot and is none of the locals
pub record IsSpared (locals : ℕ) (layout : Layout) (start : Start) (address : ℕ) : Type 0 where
  pub below : is_below_sp start layout.size address ≡ true
  pub no_local : is_below_sp start locals address ≡ false
  pub no_slot : is_in_slots layout (start.sp - layout.size) address ≡ false

-- A tame effect changes a home, or bytes that are not spared.
abbrev pub IsTame : ℕ → Layout → Start → Effect → Type 0
IsTame locals layout start (Sets reg known) = IsHome layout reg
IsTame locals layout start (Unsets reg) = IsHome layout reg
IsTame locals layout start (Stores w at value) =
    (address : ℕ) → at ≤ address → address < at + bytes_of w → IsSpared locals layout start address → ⊥
IsTame locals layout start Nothing = Unit {0}

abbrev pub AreTame : ℕ → Layout → Start → List Effect → Type 0
AreTame locals layout start [] = Unit {0}
AreTame locals layout start (e ∷ es) = IsTame locals layout start e × AreTame locals layout start es
