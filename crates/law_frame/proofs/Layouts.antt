-- What a layout gives in a lawful start: each saved register has its place in the room, and slots and locals are elsewhere.
use Rattle.std.proofs.Common.{◌≡◌, ◌≢◌, ℕ, ◌+◌, ◌-◌, ◌%◌, ◌<◌, ◌≤◌, ◌^◌, ◌||◌, if◌then◌else◌, true, false, List, [], ◌∷◌, ◌++◌, map, None, refl, sym, ap, ◌∙◌, arith}
use Rattle.std.proofs.lemmas.Bool.Decides.{nat_tests}
use Rattle.std.proofs.lemmas.List.Elements.{All-cons, All-head, All-tail}
use Rattle.std.proofs.lemmas.List.Kept.{AllPairs-cons}
use Rattle.std.specs.List.{All, AllPairs, list_any}
use Rattle.std.specs.Prelude.{is_some}
use Rattle.bits64.specs.declared.Width.TheVariants.{W64}
use Rattle.rtx_tree.specs.RegSet.{has_reg}
use Rattle.rtx_tree.specs.declared.machine.Start.{Start}
use Rattle.run_memory.specs.RunMemory.{number_at, is_aligned, load}
use Rattle.same_behaviour.specs.Lawful.{IsLawful, is_below_sp}
use Rattle.assign.specs.declared.places.Layout.{Layout}
use Rattle.assign.specs.declared.places.SavedAt.{SavedAt}
use Rattle.assign.specs.declared.places.SlotAt.{SlotAt}
use Rattle.law_frame.specs.Kept.{is_in_slot, preserved_registers}
use Rattle.law_frame.specs.Keeps.{IsLaidOut}
use Rattle.law_frame.proofs.Words.{number_there, first_above, rest_apart}

-- ---- what all of two lists are, those of the first are

abbrev saved_offset : SavedAt → ℕ
saved_offset s = s.offset

abbrev slot_offset : SlotAt → ℕ
slot_offset s = s.offset

front : (P : ℕ → Type 0) (xs ys : List ℕ) → All P (xs ++ ys) → All P xs
front P [] ys all = λ k d inside. absurd (omega (arith, inside))
front P (x ∷ xs) ys all = All-cons P x xs (All-head P x (xs ++ ys) all) (front P xs ys (All-tail P x (xs ++ ys) all))

pairs_front : (xs ys : List ℕ) → AllPairs (λ upper lower. lower + 8 ≤ upper) (xs ++ ys) → AllPairs (λ upper lower. lower + 8 ≤ upper) xs
pairs_front [] ys pairs = λ i j d less inside. absurd (omega (arith, inside))
pairs_front (x ∷ xs) ys pairs = AllPairs-cons (λ upper lower. lower + 8 ≤ upper) x xs
    (front (λ lower. lower + 8 ≤ x) xs ys (first_above x (xs ++ ys) pairs)) (pairs_front xs ys (rest_apart x (xs ++ ys) pairs))

back : (P : ℕ → Type 0) (xs ys : List ℕ) → All P (xs ++ ys) → All P ys
back P [] ys all = all
back P (x ∷ xs) ys all = back P xs ys (All-tail P x (xs ++ ys) all)

-- ---- places in the room

module _ (start : Start) (locals : ℕ) (layout : Layout) (lawful : IsLawful layout.size locals start) where
  abbrev base : ℕ
  base = start.sp - layout.size

  pub below : (a size : ℕ) → start.sp ≤ a + size → a < start.sp → is_below_sp start size a ≡ true
  below a size up down = grind (arith, nat_tests, up, down)

  pub above : (a size : ℕ) → a + size < start.sp → is_below_sp start size a ≡ false
  above a size up = grind (arith, nat_tests, up)

  -- the 8 bytes at an offset are in the room, and none of the locals
  pub in_room : (offset i : ℕ) → offset + 8 + locals ≤ layout.size → i < 8 → is_below_sp start layout.size (base + offset + i) ≡ true
  in_room offset i within small = let enough = lawful.above_zero in
      below (base + offset + i) layout.size (omega (arith, within, small, enough)) (omega (arith, within, small, enough))

  pub no_local : (offset i : ℕ) → offset + 8 + locals ≤ layout.size → i < 8 → is_below_sp start locals (base + offset + i) ≡ false
  no_local offset i within small = let enough = lawful.above_zero in above (base + offset + i) locals (omega (arith, within, small, enough))

  pub small_offset : (offset : ℕ) → offset + 8 + locals ≤ layout.size → base + offset < 2 ^ 64
  small_offset offset within = let enough = lawful.above_zero in let words = lawful.words.sp in omega (arith, within, enough, words)

  eights : (sp size offset : ℕ) → size ≤ sp → sp % 16 ≡ 0 → size % 16 ≡ 0 → offset % 8 ≡ 0 → (sp - size + offset) % 8 ≡ 0
  eights sp size offset enough even even' eight = omega (arith, enough, even, even', eight)

  is_eight : (a : ℕ) → a % 8 ≡ 0 → is_aligned W64 a ≡ true
  is_eight a eight = grind (arith, nat_tests, eight)

  -- they are there
  pub word_there : (offset : ℕ) → layout.size % 16 ≡ 0 → offset % 8 ≡ 0 → offset + 8 + locals ≤ layout.size →
      is_some (load W64 start.memory (base + offset)) ≡ true
  word_there offset even eight within =
      ap (λ b. is_some (if b then number_at start.memory (base + offset) 8 else None))
      (is_eight (base + offset) (eights start.sp layout.size offset lawful.above_zero lawful.aligned even eight)) ∙
      number_there start.memory (base + offset) 8 (λ i small. lawful.present (base + offset + i) (in_room offset i within small))

  -- ---- slots

  not_in : (a offset : ℕ) (slot : SlotAt) → base + slot.offset + 8 ≤ a → is_in_slot base a slot ≡ false
  not_in a offset slot up = grind (arith, nat_tests, up)

  pub no_slot : (slots : List SlotAt) (offset i : ℕ) → All (λ lower. lower + 8 ≤ offset) (map slot_offset slots) →
      list_any (is_in_slot base (base + offset + i)) slots ≡ false
  no_slot [] offset i all = refl
  no_slot (slot ∷ slots) offset i all =
      let here : slot.offset + 8 ≤ offset = All-head (λ lower. lower + 8 ≤ offset) slot.offset (map slot_offset slots) all in
      ap (λ b. b || list_any (is_in_slot base (base + offset + i)) slots) (not_in (base + offset + i) offset slot (omega (arith, here))) ∙
      no_slot slots offset i (All-tail (λ lower. lower + 8 ≤ offset) slot.offset (map slot_offset slots) all)

  -- ---- one saved register

  pub record HasPlace (s : SavedAt) : Type 0 where
    pub preserved : has_reg preserved_registers s.reg ≡ true
    pub aligned : s.offset % 8 ≡ 0
    pub within : s.offset + 8 + locals ≤ layout.size
    pub slots : All (λ lower. lower + 8 ≤ s.offset) (map slot_offset layout.slots)

  abbrev pub HavePlaces : List SavedAt → Type 0
  HavePlaces [] = Unit {0}
  HavePlaces (s ∷ saved) = HasPlace s × HavePlaces saved

  places : (saved : List SavedAt) → All (λ s. has_reg preserved_registers s.reg ≡ true) saved →
      All (λ offset. offset % 8 ≡ 0) (map saved_offset saved ++ map slot_offset layout.slots) →
      All (λ offset. offset + 8 + locals ≤ layout.size) (map saved_offset saved ++ map slot_offset layout.slots) →
      AllPairs (λ upper lower. lower + 8 ≤ upper) (map saved_offset saved ++ map slot_offset layout.slots) → HavePlaces saved
  places [] preserved aligned within apart = tt
  places (s ∷ saved) preserved aligned within apart =
      let later = map saved_offset saved ++ map slot_offset layout.slots in (
        record {
          preserved = All-head (λ s. has_reg preserved_registers s.reg ≡ true) s saved preserved;
          aligned = All-head (λ offset. offset % 8 ≡ 0) s.offset later aligned;
          within = All-head (λ offset. offset + 8 + locals ≤ layout.size) s.offset later within;
          slots = back (λ lower. lower + 8 ≤ s.offset) (map saved_offset saved) (map slot_offset layout.slots) (first_above s.offset later apart);
        },
        places saved (All-tail (λ s. has_reg preserved_registers s.reg ≡ true) s saved preserved)
            (All-tail (λ offset. offset % 8 ≡ 0) s.offset later aligned)
            (All-tail (λ offset. offset + 8 + locals ≤ layout.size) s.offset later within) (rest_apart s.offset later apart),
      )

  pub all_places : IsLaidOut locals layout → HavePlaces layout.saved
  all_places out = places layout.saved out.preserved out.aligned out.within out.apart

  pub saved_apart : IsLaidOut locals layout → AllPairs (λ upper lower. lower + 8 ≤ upper) (map saved_offset layout.saved)
  saved_apart out = pairs_front (map saved_offset layout.saved) (map slot_offset layout.slots) out.apart

  -- a frame without bytes saves nothing
  pub none_saved : HavePlaces layout.saved → layout.size ≡ 0 → layout.saved ≡ []
  none_saved have is = by layout.saved have
    where
      by : (saved : List SavedAt) → HavePlaces saved → saved ≡ []
      by [] have = refl
      by (s ∷ saved) have = absurd (let within = have.0.within in omega (arith, within, is))

-- a saved register is none of zero, sp, t3 and a0
pub no_register : (reg : ℕ) → has_reg preserved_registers reg ≡ true → (reg ≢ 0) × (reg ≢ 2) × (reg ≢ 28) × (reg ≢ 10)
no_register reg is = (
  λ same. none 0 refl same,
  λ same. none 2 refl same,
  λ same. none 28 refl same,
  λ same. none 10 refl same,
)
  where
    none : (n : ℕ) → has_reg preserved_registers n ≡ false → reg ≡ n → ⊥
    none n absent same = let both : true ≡ false = sym is ∙ ap (has_reg preserved_registers) same ∙ absent in cc
