-- What effects touch where registers have homes: registers that may be homes, slots, and memory
-- that is no slot. Such effects leave what stays while the function runs: GCC Internals, "Basic
-- Stack Layout"; RISC-V ELF psABI, "Integer Register Convention".
use Rattle.std.specs.Prelude.{◌≡◌, ℕ, ◌+◌, ◌<◌, ◌≤◌, ◌&&◌, nat_le, Bool, true, false, Some, slice_get}
use Rattle.bits64.specs.Words.{bytes_of}
use Rattle.bits64.specs.declared.Width.{Width}
use Rattle.rtx_tree.specs.declared.machine.Start.{Start}
use Rattle.rtl_step.specs.declared.effect.Effect.{Effect}
use Rattle.rtl_step.specs.declared.effect.Effect.TheVariants.{Nothing, Sets, Unsets, Stores}
use Rattle.rtl_step.specs.declared.regs.Known.{Known}
use Rattle.same_behaviour.specs.Lawful.{is_below_sp}
use Rattle.assign.specs.declared.places.Layout.{Layout}
use Rattle.assign.specs.declared.places.SlotAt.{SlotAt}
use Rattle.law_homes.specs.Kept.{base_of, in_slots, is_unsaved}

-- t0 to t2, s0 and s1, a0 to a7, s2 to s11
abbrev pub may_be_home : ℕ → Bool
may_be_home reg = nat_le 5 reg && nat_le reg 27

-- a register that may be a home, and that is saved where a caller wants it back
pub record IsFree (layout : Layout) (reg : ℕ) : Type 0 where
  pub home : may_be_home reg ≡ true
  pub saved : is_unsaved layout reg ≡ false

-- bytes in no slot, and in the frame none but the locals
pub record IsOutside (layout : Layout) (locals : ℕ) (start : Start) (at count : ℕ) : Type 0 where
  pub no_slot : (address : ℕ) → at ≤ address → address < at + count →
      in_slots layout (base_of layout start) address ≡ false
  pub local : (address : ℕ) → at ≤ address → address < at + count →
      is_below_sp start layout.size address ≡ true →
      is_below_sp start locals address ≡ true

pub data IsTame (layout : Layout) (locals : ℕ) (start : Start) : Effect → Type 0 where
  sets : (reg : ℕ) (known : Known) → IsFree layout reg → IsTame layout locals start (Sets reg known)
  unsets : (reg : ℕ) → IsFree layout reg → IsTame layout locals start (Unsets reg)
  fills : (w : Width) (i value : ℕ) (slot : SlotAt) → slice_get layout.slots i ≡ Some slot →
      IsTame layout locals start (Stores w (base_of layout start + slot.offset) value)
  stores : (w : Width) (at value : ℕ) → IsOutside layout locals start at (bytes_of w) →
      IsTame layout locals start (Stores w at value)
  nothing : IsTame layout locals start Nothing
