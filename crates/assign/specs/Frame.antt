-- The layout of a frame: GCC Internals, "Basic Stack Layout" and "Function Entry and Exit"; RISC-V
-- ELF psABI, "Integer Calling Convention" (the stack pointer is a multiple of 16).
use Rattle.std.specs.Prelude.{◌≡◌, ℕ, ◌+◌, ◌-◌, ◌*◌, ◌%◌, ◌≤◌, ◌==◌, Bool, false, if◌then◌else◌, List, [], ◌∷◌, ◌++◌, length, map, filter, All}
use Rattle.std.specs.Int.{next_multiple_of}
use Rattle.std.specs.List.{list_any, flat_map, AllPairs}
use Rattle.rtx_tree.specs.declared.function.Insn.{Insn}
use Rattle.rtx_tree.specs.declared.function.Function.{Function}
use Rattle.rv_regs.specs.Registers.{return_address, saved_registers}
use Rattle.reg_uses.specs.Uses.{is_call_kind}
use Rattle.assign.specs.declared.home.Home.{Home}
use Rattle.assign.specs.declared.home.Home.TheVariants.{Hard, Slot}
use Rattle.assign.specs.declared.home.HomeOf.{HomeOf}
use Rattle.assign.specs.declared.places.SavedAt.{SavedAt}
use Rattle.assign.specs.declared.places.SlotAt.{SlotAt}
use Rattle.assign.specs.declared.places.Layout.{Layout}

-- ---- what is saved: ra where there is a call, then those of s0 to s11 that are homes, in increasing order

abbrev pub is_call : Insn → Bool
is_call i = is_call_kind i.kind

abbrev pub saved_for_calls : List Insn → List ℕ
saved_for_calls insns = if list_any is_call insns then return_address ∷ [] else []

abbrev pub is_in : ℕ → Home → Bool
is_in reg (Hard hard) = hard == reg
is_in reg Slot = false

abbrev pub lives_in : ℕ → HomeOf → Bool
lives_in reg x = is_in reg x.home

abbrev pub is_home : List HomeOf → ℕ → Bool
is_home homes reg = list_any (lives_in reg) homes

abbrev pub saved_of : Function → List HomeOf → List ℕ
saved_of f homes = saved_for_calls f.insns ++ filter (is_home homes) saved_registers

-- ---- what lives in slots, in increasing number

abbrev pub slot_by : Home → ℕ → List ℕ
slot_by (Hard hard) pseudo = []
slot_by Slot pseudo = pseudo ∷ []

abbrev pub slot_of : HomeOf → List ℕ
slot_of x = slot_by x.home x.pseudo

abbrev pub slots_of : List HomeOf → List ℕ
slots_of homes = flat_map slot_of homes

-- ---- places: 8 bytes each, from a top down

abbrev pub saved_places : ℕ → List ℕ → List SavedAt
saved_places top [] = []
saved_places top (reg ∷ regs) = record { reg = reg; offset = top - 8 } ∷ saved_places (top - 8) regs

abbrev pub slot_places : ℕ → List ℕ → List SlotAt
slot_places top [] = []
slot_places top (pseudo ∷ pseudos) = record { pseudo = pseudo; offset = top - 8 } ∷ slot_places (top - 8) pseudos

-- the locals stand at the top, rounded up to 8 bytes; below them the saved registers, and below
-- these the slots; all of it is rounded up to 16 bytes
abbrev pub frame_size : ℕ → List ℕ → List ℕ → ℕ
frame_size locals saved slots =
    next_multiple_of (next_multiple_of locals 8 + 8 * length saved + 8 * length slots) 16

abbrev pub top_of : ℕ → List ℕ → List ℕ → ℕ
top_of locals saved slots = frame_size locals saved slots - next_multiple_of locals 8

abbrev pub layout_for : ℕ → List ℕ → List ℕ → Layout
layout_for locals saved slots = record {
  size = frame_size locals saved slots;
  slots = slot_places (top_of locals saved slots - 8 * length saved) slots;
  saved = saved_places (top_of locals saved slots) saved;
}

abbrev pub layout_of : Function → List HomeOf → Layout
layout_of f homes = layout_for f.locals (saved_of f homes) (slots_of homes)

-- ---- what this gives: each saved register and each slot has 8 bytes to itself, aligned, within the frame and below the locals

-- where each of them stands
abbrev pub offsets : Layout → List ℕ
offsets layout = map (λ s. s.offset) layout.saved ++ map (λ s. s.offset) layout.slots

pub record IsFrame (f : Function) (homes : List HomeOf) (layout : Layout) : Type 0 where
  pub saved : map (λ s. s.reg) layout.saved ≡ saved_of f homes
  pub slots : map (λ s. s.pseudo) layout.slots ≡ slots_of homes
  pub size_aligned : layout.size % 16 ≡ 0
  pub aligned : All (λ offset. offset % 8 ≡ 0) (offsets layout)
  pub within : All (λ offset. offset + 8 + f.locals ≤ layout.size) (offsets layout)
  pub apart : AllPairs (λ upper lower. lower + 8 ≤ upper) (offsets layout)
