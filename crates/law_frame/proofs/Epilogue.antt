-- A frame is left at a return.
use Rattle.std.proofs.Common.{◌≡◌, ◌≢◌, ℕ, ◌+◌, ◌-◌, ◌<◌, ◌^◌, ◌==◌, ◌||◌, if◌then◌else◌, Bool, true, false, length, List, [], ◌∷◌, ◌++◌, Some, None, refl, sym, ap, subst, ◌∙◌, arith}
use Rattle.std.proofs.lemmas.Bool.Decides.{nat_tests}
use Rattle.std.proofs.lemmas.List.Elements.{All-nil, All-cons}
use Rattle.std.specs.FinMap.{get}
use Rattle.std.specs.List.{All, flat_map}
use Rattle.std.specs.Prelude.{is_some, pos}
use Rattle.bits64.specs.declared.Width.TheVariants.{W64}
use Rattle.rtx_tree.specs.RegSet.{has_reg}
use Rattle.rtx_tree.specs.declared.function.Function.{Function}
use Rattle.rtx_tree.specs.declared.function.Insn.{Insn}
use Rattle.rtx_tree.specs.declared.machine.Start.{Start}
use Rattle.rtx_tree.specs.declared.machine.World.{World}
use Rattle.run_memory.specs.RunMemory.{is_aligned, load}
use Rattle.rtl_step.specs.Regs.{reg_value}
use Rattle.rtl_step.specs.declared.step.State.{State}
use Rattle.func_run.specs.Run as func
use Rattle.func_run.specs.Run.{entry_regs}
use Rattle.same_behaviour.specs.Lawful.{IsLawful}
use Rattle.law_window_replaced.proofs.Stands.{Stands, stands_same}
use Rattle.assign.specs.declared.places.Layout.{Layout}
use Rattle.assign.specs.declared.places.SavedAt.{SavedAt}
use Rattle.law_frame.specs.Frame.{loaded, sp_changed, frame_left, epilogue, plain_insns, return_with, leaving}
use Rattle.law_frame.specs.Kept.{preserved_registers, IsKept}
use Rattle.law_frame.specs.Keeps.{held_at_entry, with_saved, IsLaidOut}
use Rattle.law_frame.proofs.Registers.{differ, value_alike, holds}
use Rattle.law_frame.proofs.Entry.{sp_given}
use Rattle.law_frame.proofs.Numbers.{raises}
use Rattle.law_frame.proofs.Words.{Stored, words_stored, number_same}
use Rattle.law_frame.proofs.Behind.{Behind, with_memory, behind_none, behind_both}
use Rattle.law_frame.proofs.Changes.{is_sp, two_other, Points, sp_changes}
use Rattle.law_frame.proofs.Stores.{plain-append}
use Rattle.law_frame.proofs.Loads.{AreLoadable, HaveAgain, among, loads}
use Rattle.law_frame.proofs.Layouts.{HasPlace, HavePlaces, all_places, saved_apart, none_saved, no_register, small_offset, word_there, in_room, no_local, no_slot}
use Rattle.law_frame.proofs.Held.{is_held}
use Rattle.law_frame.proofs.Chain.{leaving-append}
use Rattle.law_frame.proofs.Lockstep.{Alike}

module _ (world : World) (g : Function) (start : Start) (locals : ℕ) (layout : Layout) (lawful : IsLawful layout.size locals start)
    (out : IsLaidOut locals layout) where
  abbrev base : ℕ
  base = start.sp - layout.size

  abbrev inner : Start
  inner = with_saved layout start

  two_some : ◌≢◌ {A = ℕ} 2 0
  two_some is = omega (arith, is)

  have : HavePlaces start locals layout lawful layout.saved
  have = all_places start locals layout lawful out

  -- ---- what is saved stands at its places

  all_there : (saved : List SavedAt) → HavePlaces start locals layout lawful saved →
      All (λ s. is_some (load W64 start.memory (base + s.offset)) ≡ true) saved
  all_there [] places = All-nil (λ s. is_some (load W64 start.memory (base + s.offset)) ≡ true)
  all_there (s ∷ saved) places = All-cons (λ s. is_some (load W64 start.memory (base + s.offset)) ≡ true) s saved
      (word_there start locals layout lawful s.offset out.size_aligned places.0.aligned places.0.within) (all_there saved places.1)

  all_words : (saved : List SavedAt) → HavePlaces start locals layout lawful saved → All (λ s. held_at_entry start s.reg < 2 ^ 64) saved
  all_words [] places = All-nil (λ s. held_at_entry start s.reg < 2 ^ 64)
  all_words (s ∷ saved) places = All-cons (λ s. held_at_entry start s.reg < 2 ^ 64) s saved
      (is_held start lawful.words s.reg places.0.preserved).small (all_words saved places.1)

  -- sp and a0 are not saved
  unsaved_one : (n : ℕ) → ((s : SavedAt) → HasPlace start locals layout lawful s → s.reg ≢ n) → (saved : List SavedAt) →
      HavePlaces start locals layout lawful saved → among saved n ≡ false
  unsaved_one n other [] places = refl
  unsaved_one n other (s ∷ saved) places =
      ap (λ b. b || among saved n) (differ s.reg n (other s places.0)) ∙ unsaved_one n other saved places.1

  stored : Stored start base inner.memory layout.saved
  stored = words_stored start base layout.saved start.memory (saved_apart start locals layout lawful out) (all_there layout.saved have)
      (all_words layout.saved have)

  module _ (s u : State) (alike : Alike s u) (kept : IsKept locals layout inner s) where
    -- the bytes there are as they were stored
    same_load : (s' : SavedAt) → HasPlace start locals layout lawful s' → load W64 u.memory (base + s'.offset) ≡ load W64 inner.memory (base + s'.offset)
    same_load s' place = let offset : ℕ = s'.offset in
        ap (λ m. load W64 m (base + offset)) alike.memory_is ∙
        ap (λ o. if is_aligned W64 (base + offset) then o else None) (number_same inner.memory s.memory (base + offset) 8 (λ i small.
        kept.room (base + offset + i) (in_room start locals layout lawful offset i place.within small)
        (no_local start locals layout lawful offset i place.within small) (no_slot start locals layout lawful layout.slots offset i place.slots)))

    loadable : (saved : List SavedAt) → HavePlaces start locals layout lawful saved → Stored start base inner.memory saved →
        AreLoadable base start u.memory saved
    loadable [] places is = tt
    loadable (s ∷ saved) places is = let other = no_register s.reg places.0.preserved in (
      record {
        small = small_offset start locals layout lawful s.offset places.0.within;
        some = other.0;
        no_sp = other.1;
        no_spare = other.2;
        has = same_load s places.0 ∙ is.0;
      },
      loadable saved places.1 is.1,
    )

    base_known : reg_value u.regs 2 W64 ≡ Some base
    base_known = alike.known 2 W64 base kept.pointer

    -- a register that has no place in the frame is as it was
    unsaved : (r : ℕ) → has_reg preserved_registers r ≡ true → among layout.saved r ≡ false → reg_value u.regs r W64 ≡ reg_value (entry_regs start) r W64
    unsaved r preserved none_is =
        let is = (is_held start lawful.words r preserved).value_is in
        alike.known r W64 (held_at_entry start r) (kept.registers r preserved none_is ∙ is) ∙ sym is

    -- ---- the frame is left

    abbrev pub Found : State → Type 0
    Found t = (r : ℕ) → has_reg func.kept_registers r ≡ true → reg_value t.regs r W64 ≡ reg_value (entry_regs start) r W64

    abbrev pub IsLeft : List Insn → Type 0
    IsLeft rest = Behind world g u rest (λ r. among layout.saved r || is_sp r) u.memory Found

    -- of sp, and of the others
    sp_or_other : (here : Bool) (after : State) (r : ℕ) → (2 == r) ≡ here → reg_value after.regs 2 W64 ≡ reg_value (entry_regs start) 2 W64 →
        (has_reg preserved_registers r ≡ true → reg_value after.regs r W64 ≡ reg_value (entry_regs start) r W64) →
        here || has_reg preserved_registers r ≡ true → reg_value after.regs r W64 ≡ reg_value (entry_regs start) r W64
    sp_or_other true after r is sp_is other has = let same : 2 ≡ r = grind (arith, nat_tests, is) in
        subst (λ r. reg_value after.regs r W64 ≡ reg_value (entry_regs start) r W64) same sp_is
    sp_or_other false after r is sp_is other has = other has

    each_found : (after : State) → reg_value after.regs 2 W64 ≡ reg_value (entry_regs start) 2 W64 →
        ((r : ℕ) → has_reg preserved_registers r ≡ true → reg_value after.regs r W64 ≡ reg_value (entry_regs start) r W64) → Found after
    each_found after sp_is others r has = sp_or_other (2 == r) after r refl sp_is (others r) has

    sp_at_entry : reg_value (entry_regs start) 2 W64 ≡ Some start.sp
    sp_at_entry = holds (entry_regs start) 2 start.sp two_some lawful.words.sp (sp_given start)

    -- of a saved register, and of another
    restored : (after : State) (r : ℕ) (saved : Bool) → ((r : ℕ) → r ≢ 28 → among layout.saved r ≡ false → get after.regs r ≡ get u.regs r) →
        HaveAgain world g base start layout.saved after → among layout.saved r ≡ saved → has_reg preserved_registers r ≡ true →
        reg_value after.regs r W64 ≡ reg_value (entry_regs start) r W64
    restored after r true others held is preserved =
        let at = is_held start lawful.words r preserved in
        holds after.regs r (held_at_entry start r) (no_register r preserved).0 at.small (held r is) ∙ sym at.value_is
    restored after r false others held is preserved =
        value_alike u.regs after.regs r W64 (others r (no_register r preserved).2 is) ∙ unsaved r preserved is

    by_size : (nothing : Bool) (n q : ℕ) (rest : List Insn) → (layout.size == 0) ≡ nothing →
        Stands g.insns u.next (plain_insns n (if nothing then [] else frame_left layout) ++ rest) q → IsLeft rest
    by_size true n q rest is stands =
        let empty : layout.size ≡ 0 = grind (arith, nat_tests, is) in
        let none_is = none_saved start locals layout lawful have empty in
        let same : base ≡ start.sp = omega (arith, empty) in
        behind_none world g u rest (λ r. among layout.saved r || is_sp r) Found q stands
        (each_found u (base_known ∙ ap Some same ∙ sym sp_at_entry)
        (λ r preserved. unsaved r preserved (ap (λ (saved : List SavedAt). among saved r) none_is)))
    by_size false n q rest is stands =
        let change = sp_changed layout.size (pos layout.size) in
        let loading_all = flat_map loaded layout.saved in
        let n' : ℕ = n + length loading_all in
        let b = loads world g base start layout.saved u n q (plain_insns n' change ++ rest) (loadable layout.saved have stored)
        (stands_same g.insns u.next _ _ q (plain-append n loading_all change rest) stands) base_known in
        let no_two = unsaved_one 2 (λ s place. (no_register s.reg place.preserved).1) layout.saved have in
        let c = sp_changes world g b.after n' b.place layout.size base start.sp (pos layout.size) rest b.stands
        (value_alike u.regs b.after.regs 2 W64 (b.others 2 two_other no_two) ∙ base_known)
        (raises start.sp layout.size lawful.above_zero lawful.words.sp) in
        behind_both world g u (plain_insns n' change ++ rest) rest (among layout.saved) is_sp u.memory u.memory
        (HaveAgain world g base start layout.saved) Found b
        (with_memory world g b.after rest is_sp b.after.memory u.memory (Points world g start.sp) Found b.memory_is c
        (each_found c.after (holds c.after.regs 2 start.sp two_some lawful.words.sp c.holds ∙ sym sp_at_entry)
        (λ r preserved. let other = no_register r preserved in
        value_alike b.after.regs c.after.regs r W64 (c.others r other.2 (differ r 2 other.1)) ∙
        restored b.after r (among layout.saved r) b.others b.holds refl preserved)))

    pub leaves_frame : (n q : ℕ) (more : List Insn) → Stands g.insns u.next (leaving layout n ++ more) q →
        IsLeft (return_with (n + length (epilogue layout)) ∷ more)
    leaves_frame n q more stands = by_size (layout.size == 0) n q (return_with (n + length (epilogue layout)) ∷ more) refl
        (stands_same g.insns u.next _ _ q (leaving-append layout n more) stands)

    -- a0 is what it was
    pub result_stays : (rest : List Insn) (l : IsLeft rest) → get l.after.regs 10 ≡ get u.regs 10
    result_stays rest l = l.others 10 (λ is. omega (arith, is))
        (ap (λ b. b || false) (unsaved_one 10 (λ s place. (no_register s.reg place.preserved).3) layout.saved have))
