-- How a function whose registers have homes stands beside the function with its pseudo registers,
-- at a place: GCC Internals, "RTL passes" (reload) and "Liveness information". Of each live
-- register whatever is known stands in its home; memory has what it had, and the room of the frame
-- besides; the caller sees the same of both.
use Rattle.std.specs.Prelude.{◌≡◌, ◌+◌, ℕ, nat_le, ◌||◌, Bool, true, List, Option, Some, IsSome}
use Rattle.bits64.specs.declared.Width.{Width}
use Rattle.bits64.specs.declared.Width.TheVariants.{W64}
use Rattle.rtx_tree.specs.Memories.{byte_at}
use Rattle.rtx_tree.specs.Registers.{pseudo, virtual_stack_vars}
use Rattle.rtx_tree.specs.declared.function.Function.{Function}
use Rattle.rtx_tree.specs.declared.machine.Start.{Start}
use Rattle.rtx_tree.specs.declared.memories.MemByte.{MemByte}
use Rattle.run_memory.specs.RunMemory.{load, visible}
use Rattle.rtl_step.specs.Regs.{Regs, reg_value}
use Rattle.rtl_step.specs.declared.step.State.{State}
use Rattle.rtl_func.specs.Calls.{is_argument}
use Rattle.live.specs.Live.{IsLive}
use Rattle.same_behaviour.specs.Lawful.{is_below_sp}
use Rattle.law_window_runs.specs.Beside.{Within}
use Rattle.assign.specs.declared.home.Home.{Home}
use Rattle.assign.specs.declared.home.Home.TheVariants.{Hard, Slot}
use Rattle.assign.specs.declared.home.HomeOf.{HomeOf}
use Rattle.assign.specs.declared.places.Layout.{Layout}
use Rattle.reload_homes.specs.Homes.{home_of, slot_offset}
use Rattle.law_homes.specs.Kept.{base_of, IsKept}

-- ---- what stands in a home

-- one of a0 to a7, which live in themselves, or a pseudo
abbrev pub has_home : ℕ → Bool
has_home reg = is_argument reg || nat_le (pseudo 0) reg

abbrev pub content_in : Layout → ℕ → Regs → List MemByte → ℕ → Home → Width → Option ℕ
content_in layout base regs memory reg (Hard hard) w = reg_value regs hard w
content_in layout base regs memory reg Slot w = load w memory (base + slot_offset layout reg)

-- what stands in the home of a register, in a width, where the frame has this lowest address: the
-- low bits of a hard register, or what a load from its slot has
abbrev pub content : List HomeOf → Layout → ℕ → State → ℕ → Width → Option ℕ
content homes layout base u reg w = content_in layout base u.regs u.memory reg (home_of homes reg) w

-- what is known of a register in one state stands in its home in the other
abbrev pub IsHeld : List HomeOf → Layout → ℕ → State → State → ℕ → Type 0
IsHeld homes layout base s u reg =
    (w : Width) (value : ℕ) → reg_value s.regs reg w ≡ Some value → content homes layout base u reg w ≡ Some value

-- ---- two states at a place

pub record Stands (f : Function) (homes : List HomeOf) (layout : Layout) (start : Start) (place : ℕ) (s u : State) : Type 0 where
  pub values : (reg : ℕ) → has_home reg ≡ true → IsLive f reg place →
      IsHeld homes layout (base_of layout start) s u reg
  pub vars : reg_value s.regs virtual_stack_vars W64 ≡ Some start.sp
  pub within : Within s.memory u.memory
  -- of the frame the one has the locals alone, and the other has all
  pub outside : (address : ℕ) → IsSome (byte_at s.memory address) →
      is_below_sp start layout.size address ≡ true →
      is_below_sp start f.locals address ≡ true
  pub room : (address : ℕ) → is_below_sp start layout.size address ≡ true →
      IsSome (byte_at u.memory address)
  pub seen : visible start.visible u.memory ≡ visible start.visible s.memory
  pub ranges : s.visible ≡ start.visible
  pub ranges_too : u.visible ≡ start.visible
  pub calls : u.calls ≡ s.calls
  pub kept : IsKept layout f.locals start u
