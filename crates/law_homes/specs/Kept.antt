-- What stays while a function runs whose registers have homes in a frame: RISC-V ELF psABI,
-- "Integer Register Convention" (a function leaves sp, ra and s0 to s11 as it found them); GCC
-- Internals, "Basic Stack Layout" (the frame is the part of the stack below sp).
use Rattle.std.specs.Prelude.{◌≡◌, ℕ, ◌+◌, ◌-◌, ◌&&◌, not, Bool, true, false, List, ◌∷◌, map, Some}
use Rattle.std.specs.List.{list_any}
use Rattle.bits64.specs.declared.Width.TheVariants.{W64}
use Rattle.rtx_tree.specs.Memories.{byte_at}
use Rattle.rtx_tree.specs.RegSet.{has_reg}
use Rattle.rtx_tree.specs.declared.machine.RangeAt.{RangeAt}
use Rattle.rtx_tree.specs.declared.machine.Start.{Start}
use Rattle.run_memory.specs.RunMemory.{is_in}
use Rattle.rtl_step.specs.Regs.{reg_value}
use Rattle.rtl_step.specs.declared.step.State.{State}
use Rattle.func_run.specs.Run.{entry_regs}
use Rattle.rv_regs.specs.Registers.{return_address, stack_pointer, saved_registers}
use Rattle.same_behaviour.specs.Lawful.{is_below_sp}
use Rattle.law_window_kept.specs.Same.{KnownToo}
use Rattle.assign.specs.declared.places.Layout.{Layout}

-- the start of a function whose frame is made: sp is lowered by the frame's size
abbrev pub lowered : ℕ → Start → Start
lowered size start = record start { sp = start.sp - size }

-- the lowest address of a frame below the caller's sp
abbrev pub base_of : Layout → Start → ℕ
base_of layout start = start.sp - layout.size

-- the 8 bytes of each slot, above the lowest address
abbrev pub slot_ranges : Layout → ℕ → List RangeAt
slot_ranges layout base = map (λ s. record { address = base + s.offset; length = 8 }) layout.slots

abbrev pub in_slots : Layout → ℕ → ℕ → Bool
in_slots layout base address = list_any (is_in address) (slot_ranges layout base)

-- ra, or one of s0 to s11, that the frame does not save
abbrev pub is_unsaved : Layout → ℕ → Bool
is_unsaved layout reg =
    has_reg (return_address ∷ saved_registers) reg &&
    not (has_reg (map (λ s. s.reg) layout.saved) reg)

-- What stays at each place: sp; what is known at entry of each of ra and s0 to s11 that the frame
-- does not save; and each byte of the frame that is in no slot and below the locals.
pub record IsKept (layout : Layout) (locals : ℕ) (start : Start) (u : State) : Type 0 where
  pub pointer : reg_value u.regs stack_pointer W64 ≡ Some (base_of layout start)
  pub registers : (reg : ℕ) → is_unsaved layout reg ≡ true → KnownToo (entry_regs start) u.regs reg
  pub room : (address : ℕ) → is_below_sp start layout.size address ≡ true →
      is_below_sp start locals address ≡ false →
      in_slots layout (base_of layout start) address ≡ false → byte_at u.memory address ≡ byte_at start.memory address
