-- Behind stores into slots of registers that do not stand in a tree, memory of the function is as it was, and so are the slots of registers that do.
use Rattle.std.proofs.Common.{◌≡◌, ◌≢◌, ◌⊎◌, ⊎_elim, inl, inr, ℕ, ◌+◌, ◌<◌, ◌≤◌, true, false, List, [], ◌∷◌, refl, sym, ap, subst, ◌∙◌, arith}
use Rattle.std.proofs.lemmas.Bool.{false≢true}
use Rattle.std.specs.Prelude.{is_some}
use Rattle.law_operands_fetched.specs.bits64.Words.{bytes_of}
use Rattle.law_operands_fetched.specs.bits64.declared.Width.{Width}
use Rattle.law_operands_fetched.specs.rtx_tree.Memories.{byte_at}
use Rattle.law_operands_fetched.specs.rtx_tree.Tree.{mentions_reg}
use Rattle.law_operands_fetched.specs.rtx_tree.declared.memories.MemByte.{MemByte}
use Rattle.law_operands_fetched.specs.rtx_tree.declared.tree.Rtx.{Rtx}
use Rattle.law_operands_fetched.specs.run_memory.RunMemory.{load}
use Rattle.law_operands_fetched.proofs.run_memory.Laws.{Apart, byte_at-with_number_other, load-stored_other, has-load_stored}
use Rattle.law_operands_fetched.specs.rtl_step.Effect.{bytes_after, memory_after}
use Rattle.law_operands_fetched.specs.rtl_step.declared.effect.Effect.{Effect}
use Rattle.law_operands_fetched.specs.rtl_step.declared.effect.Effect.TheVariants.{Nothing, Sets, Unsets, Stores}
use Rattle.law_operands_fetched.specs.rtl_step.declared.step.State.{State}
use Rattle.law_window_runs.specs.Beside.{Within}
use Rattle.law_operands_fetched.specs.assign.declared.home.Home.TheVariants.{Slot}
use Rattle.law_operands_fetched.specs.assign.declared.home.HomeOf.{HomeOf}
use Rattle.law_operands_fetched.specs.assign.declared.places.Layout.{Layout}
use Rattle.law_operands_fetched.specs.reload_homes.Homes.{home_of, slot_offset}
use Rattle.law_operands_fetched.proofs.law_homes.After.{from_ends, some_bytes, eight_bytes}
use Rattle.law_operands_fetched.proofs.law_homes.Setting.{Setting, base, StandsIn, slot_below, slot_no_local, slot_room}
use Rattle.law_operands_fetched.proofs.law_operands_replaced.Cells.{stored}
use Rattle.law_reload_moves.proofs.PlainGiven.{slots_are_apart}

-- what an effect stores stands in the slot of a register that does not stand in a tree, where the frame has this lowest address
abbrev pub Spares : List HomeOf → Layout → ℕ → Rtx → Effect → Type 0
Spares homes layout sp b (Stores w at v) = (reg : ℕ) × ((home_of homes reg ≡ Slot) × ((mentions_reg reg b ≡ false) × (at ≡ sp + slot_offset layout reg)))
Spares homes layout sp b _ = Unit {0}

abbrev pub AllSpare : List HomeOf → Layout → ℕ → Rtx → List Effect → Type 0
AllSpare homes layout sp b [] = Unit {0}
AllSpare homes layout sp b (e ∷ es) = Spares homes layout sp b e × AllSpare homes layout sp b es

module _ (c : Setting) (place : ℕ) (s u : State) (stands : StandsIn c place s u) (b : Rtx) where
  abbrev slot_at : ℕ → ℕ
  slot_at reg = base c + slot_offset c.layout reg

  pub record IsStill (n : List MemByte) : Type 0 where
    pub within : Within s.memory n
    pub slots : (reg : ℕ) → mentions_reg reg b ≡ true → home_of c.homes reg ≡ Slot → (w : Width) →
        load w n (base c + slot_offset c.layout reg) ≡ load w u.memory (base c + slot_offset c.layout reg)
    pub room : (reg : ℕ) → home_of c.homes reg ≡ Slot → (w : Width) → is_some (load w n (base c + slot_offset c.layout reg)) ≡ true

  -- memory of the function is in no slot
  away : (w : Width) (reg address : ℕ) → home_of c.homes reg ≡ Slot → is_some (byte_at s.memory address) ≡ true → Apart (slot_at reg) (bytes_of w) address 1
  away w reg address home has = from_ends (slot_at reg) (bytes_of w) address 1 (λ q least most first last.
      let same : q ≡ address = omega (arith, first, last) in
      let few = eight_bytes w in
      let end : q < slot_at reg + 8 = omega (arith, most, few) in
      false≢true (sym (slot_no_local c reg q home least end) ∙
      stands.outside q (ap (λ a. is_some (byte_at s.memory a)) same ∙ has) (slot_below c reg q home least end)))
      (some_bytes w) (omega arith)

  slots_apart : (w v : Width) (reg other : ℕ) → mentions_reg reg b ≡ false → mentions_reg other b ≡ true → home_of c.homes reg ≡ Slot → home_of c.homes other ≡ Slot →
      Apart (slot_at reg) (bytes_of w) (slot_at other) (bytes_of v)
  slots_apart w v reg other none has home home' =
      let one = eight_bytes w in
      let two = eight_bytes v in
      ⊎_elim (λ (below : slot_at reg + 8 ≤ slot_at other). inl (omega (arith, below, one))) (λ (above : slot_at other + 8 ≤ slot_at reg). inr (omega (arith, above, two)))
      (slots_are_apart c reg other (λ same. false≢true (sym none ∙ ap (λ r. mentions_reg r b) same ∙ has)) home home')

  store_still : (w : Width) (v reg : ℕ) (n : List MemByte) → home_of c.homes reg ≡ Slot → mentions_reg reg b ≡ false → IsStill n →
      IsStill (bytes_after (Stores w (slot_at reg) v) n)
  store_still w v reg n home none h = subst IsStill (sym (stored w n (slot_at reg) v (load w n (slot_at reg)) refl (h.room reg home w))) (record {
    within = λ address byte has. byte_at-with_number_other n (slot_at reg) (bytes_of w) v address (away w reg address home (ap is_some has)) ∙ h.within address byte has;
    slots = λ other has home' w'. load-stored_other w w' n (slot_at reg) v (slot_at other) (slots_apart w w' reg other none has home home') ∙ h.slots other has home' w';
    room = λ other home' w'. has-load_stored w w' n (slot_at reg) v (slot_at other) ∙ h.room other home' w';
  })

  one_still : (e : Effect) (n : List MemByte) → Spares c.homes c.layout (base c) b e → IsStill n → IsStill (bytes_after e n)
  one_still (Stores w at v) n (reg, (home, (none, is))) h = subst (λ at. IsStill (bytes_after (Stores w at v) n)) (sym is) (store_still w v reg n home none h)
  one_still (Sets r known) n spares h = h
  one_still (Unsets r) n spares h = h
  one_still Nothing n spares h = h

  all_still : (ds : List Effect) (n : List MemByte) → AllSpare c.homes c.layout (base c) b ds → IsStill n → IsStill (memory_after ds n)
  all_still [] n spare h = h
  all_still (e ∷ ds) n spare h = all_still ds (bytes_after e n) spare.1 (one_still e n spare.0 h)

  -- behind all of them
  pub still : (ds : List Effect) → AllSpare c.homes c.layout (base c) b ds → IsStill (memory_after ds u.memory)
  still ds spare = all_still ds u.memory spare (record {
    within = stands.within;
    slots = λ reg has home w. refl;
    room = λ reg home w. slot_room c place s u stands reg home w;
  })
