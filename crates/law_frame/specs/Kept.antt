-- What stays through the run of a function whose registers have homes, in a frame that others make
-- and leave: GCC Internals, "Basic Stack Layout" and "Register Usage"; RISC-V ELF psABI, "Integer
-- Register Convention" (a function preserves sp and s0 to s11; ra holds the return address).
use Rattle.std.specs.Prelude.{◌≡◌, ℕ, ◌+◌, ◌-◌, ◌<◌, ◌==◌, ◌&&◌, nat_le, nat_lt, Bool, true, false, List, ◌∷◌, Some}
use Rattle.std.specs.List.{list_any}
use Rattle.bits64.specs.declared.Width.TheVariants.{W64}
use Rattle.rtx_tree.specs.Memories.{byte_at}
use Rattle.rtx_tree.specs.RegSet.{has_reg}
use Rattle.rtx_tree.specs.declared.function.Function.{Function}
use Rattle.rtx_tree.specs.declared.machine.Start.{Start}
use Rattle.rtx_tree.specs.declared.machine.World.{World}
use Rattle.rv_regs.specs.Registers.{return_address, stack_pointer, saved_registers}
use Rattle.rtl_step.specs.Regs.{reg_value}
use Rattle.rtl_step.specs.declared.step.State.{State}
use Rattle.func_run.specs.Run.{entry_regs, entry_of, state_after}
use Rattle.same_behaviour.specs.Lawful.{is_below_sp}
use Rattle.assign.specs.declared.places.SavedAt.{SavedAt}
use Rattle.assign.specs.declared.places.SlotAt.{SlotAt}
use Rattle.assign.specs.declared.places.Layout.{Layout}

-- ---- the start

-- sp is lowered by the size of a frame; memory has all of its room
abbrev pub lowered : ℕ → Start → Start
lowered size start = record start { sp = start.sp - size }

-- ---- what a frame has

-- ra and s0 to s11
abbrev pub preserved_registers : List ℕ
preserved_registers = return_address ∷ saved_registers

abbrev pub is_saved_at : ℕ → SavedAt → Bool
is_saved_at reg s = s.reg == reg

-- the frame has a place for the register
abbrev pub is_saved : Layout → ℕ → Bool
is_saved layout reg = list_any (is_saved_at reg) layout.saved

abbrev pub is_in_slot : ℕ → ℕ → SlotAt → Bool
is_in_slot base address slot =
    nat_le (base + slot.offset) address && nat_lt address (base + slot.offset + 8)

-- an address lies in a slot of the frame whose lowest address is the base
abbrev pub is_in_slots : Layout → ℕ → ℕ → Bool
is_in_slots layout base address = list_any (is_in_slot base address) layout.slots

-- ---- what stays

-- By the start whose sp is not lowered yet: sp is the lowest address of the frame; each of ra and
-- s0 to s11 that has no place in it is as at the start; and so is each byte of it that lies in no
-- slot and is none of the locals.
pub record IsKept (locals : ℕ) (layout : Layout) (start : Start) (s : State) : Type 0 where
  pub pointer : reg_value s.regs stack_pointer W64 ≡ Some (start.sp - layout.size)
  pub registers : (reg : ℕ) → has_reg preserved_registers reg ≡ true → is_saved layout reg ≡ false →
      reg_value s.regs reg W64 ≡ reg_value (entry_regs start) reg W64
  pub room : (address : ℕ) → is_below_sp start layout.size address ≡ true →
      is_below_sp start locals address ≡ false →
      is_in_slots layout (start.sp - layout.size) address ≡ false → byte_at s.memory address ≡ byte_at start.memory address

-- each state at which one of the first n steps is made is so
abbrev pub StaysKept : Function → Layout → Start → World → ℕ → Type 0
StaysKept f layout start world n =
    (k : ℕ) (s : State) → k < n → state_after world f k (entry_of (lowered layout.size start)) ≡ Some s → IsKept f.locals layout start s
