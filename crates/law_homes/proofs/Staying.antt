-- Tame effects leave what stays while the function runs.
use Rattle.std.proofs.Common.{◌≡◌, ℕ, ◌+◌, ◌<◌, ◌≤◌, true, List, Option, Some, None, refl, sym, ap, ◌∙◌, arith}
use Rattle.std.proofs.lemmas.Bool.{false≢true, and_parts, leb-true}
use Rattle.std.proofs.lemmas.Bool.Decides.{nat_tests}
use Rattle.std.specs.Prelude.{nat_le, slice_get, unwrap_or, option_map}
use Rattle.bits64.specs.Words.{bytes_of}
use Rattle.bits64.specs.declared.Width.{Width}
use Rattle.bits64.specs.declared.Width.TheVariants.{W64}
use Rattle.rtx_tree.specs.Memories.{byte_at}
use Rattle.rtx_tree.specs.declared.machine.Start.{Start}
use Rattle.rtx_tree.specs.declared.memories.MemByte.{MemByte}
use Rattle.run_memory.specs.RunMemory.{load, with_number, is_in}
use Rattle.run_memory.proofs.Laws.{Apart, byte_at-with_number_other}
use Rattle.rtl_step.specs.Effect.{reg_after, bytes_after}
use Rattle.rtl_step.specs.declared.effect.Effect.{Effect}
use Rattle.rtl_step.specs.declared.step.State.{State}
use Rattle.same_behaviour.specs.Lawful.{is_below_sp}
use Rattle.assign.specs.declared.places.Layout.{Layout}
use Rattle.assign.specs.declared.places.SlotAt.{SlotAt}
use Rattle.law_homes.specs.Kept.{base_of, in_slots, is_unsaved, IsKept}
use Rattle.law_homes.specs.Tame.{IsFree, IsTame}
use Rattle.law_homes.specs.Tame as tame
use Rattle.law_homes.proofs.After.{any_mapped, eight_bytes, some_bytes, from_ends}
use Rattle.law_homes.proofs.Registers.{with_other, without_other}

-- a byte that a store leaves alone
left_byte : (w : Width) (memory : List MemByte) (at value address : ℕ) (o : Option ℕ) → Apart at (bytes_of w) address 1 →
    byte_at (unwrap_or (option_map (λ _. with_number memory at (bytes_of w) value) o) memory) address ≡ byte_at memory address
left_byte w memory at value address None apart = refl
left_byte w memory at value address (Some old) apart = byte_at-with_number_other memory at (bytes_of w) value address apart

module _ (layout : Layout) (locals : ℕ) (start : Start) where
  abbrev with_effect : Effect → State → State
  with_effect e u = record u { regs = reg_after e u.regs; memory = bytes_after e u.memory }

  free_other : (reg other : ℕ) → IsFree layout reg → is_unsaved layout other ≡ true → reg ≡ other → ⊥
  free_other reg other free unsaved same = false≢true (sym free.saved ∙ (ap (is_unsaved layout) same ∙ unsaved))

  free_no_sp : (reg : ℕ) → IsFree layout reg → reg ≡ 2 → ⊥
  free_no_sp reg free same = let least = leb-true 5 reg (and_parts (nat_le 5 reg) (nat_le reg 27) free.home).0 in omega (arith, same, least)

  slot_has : (i address : ℕ) (slot : SlotAt) → slice_get layout.slots i ≡ Some slot → base_of layout start + slot.offset ≤ address →
      address < base_of layout start + slot.offset + 8 → in_slots layout (base_of layout start) address ≡ true
  slot_has i address slot at least most =
      any_mapped (is_in address) (λ (s : SlotAt). record { address = base_of layout start + s.offset; length = 8 }) layout.slots i slot at
      (grind (arith, nat_tests, least, most))

  -- one effect
  pub effect_keeps : (e : Effect) → IsTame layout locals start e → (u : State) → IsKept layout locals start u → IsKept layout locals start (with_effect e u)
  effect_keeps _ (tame.sets reg known free) u kept = record {
    pointer = with_other u.regs reg 2 known W64 (free_no_sp reg free) ∙ kept.pointer;
    registers = λ other unsaved w v is. with_other u.regs reg other known w (free_other reg other free unsaved) ∙ kept.registers other unsaved w v is;
    room = kept.room;
  }
  effect_keeps _ (tame.unsets reg free) u kept = record {
    pointer = without_other u.regs reg 2 W64 (free_no_sp reg free) ∙ kept.pointer;
    registers = λ other unsaved w v is. without_other u.regs reg other w (free_other reg other free unsaved) ∙ kept.registers other unsaved w v is;
    room = kept.room;
  }
  effect_keeps _ (tame.fills w i value slot at) u kept = record {
    pointer = kept.pointer;
    registers = kept.registers;
    room = λ address inside other free.
        left_byte w u.memory (base_of layout start + slot.offset) value address (load w u.memory (base_of layout start + slot.offset))
        (from_ends (base_of layout start + slot.offset) (bytes_of w) address 1 (λ q least most first last.
        let same : q ≡ address = omega (arith, first, last) in
        let few = eight_bytes w in
        false≢true (sym free ∙ (ap (in_slots layout (base_of layout start)) (sym same) ∙ slot_has i q slot at least (omega (arith, most, few)))))
        (some_bytes w) (omega arith))
        ∙ kept.room address inside other free;
  }
  effect_keeps _ (tame.stores w at value outside) u kept = record {
    pointer = kept.pointer;
    registers = kept.registers;
    room = λ address inside other free.
        left_byte w u.memory at value address (load w u.memory at)
        (from_ends at (bytes_of w) address 1 (λ q least most first last.
        let same : q ≡ address = omega (arith, first, last) in
        false≢true (sym other ∙ (ap (is_below_sp start locals) (sym same) ∙ outside.local q least most (ap (is_below_sp start layout.size) same ∙ inside))))
        (some_bytes w) (omega arith))
        ∙ kept.room address inside other free;
  }
  effect_keeps _ tame.nothing u kept = record { pointer = kept.pointer; registers = kept.registers; room = kept.room }
