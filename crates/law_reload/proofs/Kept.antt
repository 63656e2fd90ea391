-- What stays by the homes of registers is what has to stay in the frame.
use Rattle.std.proofs.Common.{◌≡◌, ℕ, ◌+◌, ◌==◌, ◌&&◌, ◌||◌, not, Bool, true, false, List, [], ◌∷◌, map, refl, sym, ap, ◌∙◌}
use Rattle.std.specs.List.{list_any}
use Rattle.bits64.specs.declared.Width.TheVariants.{W64}
use Rattle.rtx_tree.specs.RegSet.{has_reg}
use Rattle.rtx_tree.specs.declared.machine.Start.{Start}
use Rattle.run_memory.specs.RunMemory.{is_in}
use Rattle.rtl_step.specs.declared.step.State.{State}
use Rattle.same_behaviour.specs.Lawful.{AreWords}
use Rattle.assign.specs.declared.places.Layout.{Layout}
use Rattle.assign.specs.declared.places.SavedAt.{SavedAt}
use Rattle.assign.specs.declared.places.SlotAt.{SlotAt}
use Rattle.law_homes.specs.Kept as homes
use Rattle.law_homes.specs.Kept.{is_unsaved}
use Rattle.law_reload_moves.specs.law_frame.Kept.{IsKept, is_saved_at, is_in_slot, preserved_registers}
use Rattle.law_reload_moves.proofs.law_frame.Held.{is_held}

saved_same : (saved : List SavedAt) (reg : ℕ) → has_reg (map (λ (s : SavedAt). s.reg) saved) reg ≡
    list_any (is_saved_at reg) saved
saved_same [] reg = refl
saved_same (s ∷ saved) reg = ap (λ b. (s.reg == reg) || b) (saved_same saved reg)

slots_same : (slots : List SlotAt) (base address : ℕ) →
    list_any (is_in address) (map (λ (s : SlotAt). record { address = base + s.offset; length = 8 })
    slots) ≡ list_any (is_in_slot base address) slots
slots_same [] base address = refl
slots_same (s ∷ slots) base address = ap (λ b. is_in_slot base address s || b)
    (slots_same slots base address)

unsaved_by : (among saved : Bool) → among ≡ true → saved ≡ false → among && not saved ≡ true
unsaved_by true false is none = refl
unsaved_by true true is none = sym none
unsaved_by false saved is none = is

pub kept_too : (layout : Layout) (locals : ℕ) (start : Start) (u : State) → AreWords start →
    homes.IsKept layout locals start u → IsKept locals layout start u
kept_too layout locals start u words kept = record {
  pointer = kept.pointer;
  registers = λ reg preserved saved.
      let held = is_held start words reg preserved in
      let unsaved : is_unsaved layout reg ≡ true =
      unsaved_by (has_reg preserved_registers reg) (has_reg
      (map (λ (s : SavedAt). s.reg) layout.saved) reg) preserved
      (saved_same layout.saved reg ∙ saved) in
      kept.registers reg unsaved W64 _ held.value_is ∙ sym held.value_is;
  room = λ address inside local free. kept.room address inside local
      (slots_same layout.slots (homes.base_of layout start) address ∙ free);
}
