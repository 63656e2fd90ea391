-- How each call leaves the slots of a pool.
use Rattle.std.proofs.Common.{◌≡◌, ℕ, zero, suc, ◌+◌, ◌<◌, List, [], ◌∷◌, length, map, set, get_or, Option, Some, None, cond, is_none, ◌-◌, refl, ap, sym, subst, ◌∙◌, arith, length-set, add-one}
use Rattle.std.specs.Prelude.{slice_get, option_map}
use Rattle.std.proofs.lemmas.List.{map-set}
use Rattle.std.proofs.lemmas.Option.{slice_get_within, slice_get_read, slice_get-map, get_or_from_slice_get}
use Rattle.node_pool.specs.Slots.{value_at, IsLive, spare_of}
use Rattle.node_pool.specs.declared.slot.Slot.{Slot}
use Rattle.node_pool.specs.machine.Links.{value_of, Links, AreLinked}
use Rattle.node_pool.proofs.Linked.{written_off, held_off, first_off, freed}
use Rattle.node_pool.proofs.Counted.{written}

module _ {T : Type 0} where
  -- what a slot holds in the list of the values
  pub holds : (slots : List (Slot T)) (at : ℕ) (slot : Slot T) → slice_get slots at ≡ Some slot →
      slice_get (map value_of slots) at ≡ Some slot.value
  holds slots at slot there = slice_get-map value_of slots at ∙ ap (λ o. option_map value_of o) there

  pub live_within : (slots : List (Slot T)) (at : ℕ) → IsLive (map value_of slots) at → at < length slots
  live_within [] at live = cc
  live_within (slot ∷ slots) zero live = omega arith
  live_within (slot ∷ slots) (suc at) live = omega (arith, live_within slots at live)

  -- the slot that is read at a live id
  pub live_slot : (slots : List (Slot T)) (at : ℕ) (slot : Slot T) → IsLive (map value_of slots) at →
      slot ≡ get_or slots at slot → slice_get slots at ≡ Some slot
  live_slot slots at slot live read = slice_get_read slots (length slots) at slot refl (live_within slots at live) read

  pub held : (slots : List (Slot T)) (at : ℕ) (slot : Slot T) (value : T) → slice_get slots at ≡ Some slot →
      slot.value ≡ Some value → value_at (map value_of slots) at ≡ Some value
  held slots at slot value there is = rw (holds slots at slot there) is

  -- the count where a slot is written
  counted : (slots : List (Slot T)) (at : ℕ) (slot new : Slot T) (old value : Option T) → slice_get slots at ≡ Some slot →
      slot.value ≡ old → new.value ≡ value →
      spare_of (map value_of (set slots at new)) + cond (is_none old) 1 0 ≡ spare_of (map value_of slots) + cond (is_none value) 1 0
  counted slots at slot new old value there was is =
      ap (λ l. spare_of l + cond (is_none old) 1 0)
      (map-set value_of slots at new ∙ ap (λ v. set (map value_of slots) at v) is) ∙
      written (map value_of slots) at old value (holds slots at slot there ∙ ap Some was)

  -- another value in the place of one
  pub set_keeps : (slots : List (Slot T)) (at first spare : ℕ) (slot new : Slot T) (old value : T) →
      AreLinked slots first spare → slice_get slots at ≡ Some slot → slot.value ≡ Some old →
      new.value ≡ Some value → AreLinked (set slots at new) first spare
  set_keeps slots at first spare slot new old value are there was is = record {
    links = written_off slots at new spare first (held_off slots at spare slot old there was) are.links;
    all = let count : spare_of (map value_of (set slots at new)) + 0 ≡ spare_of (map value_of slots) + 0 = counted slots at slot new (Some old) (Some value) there was is in omega (arith, are.all, count);
    fit = omega (arith, are.fit, length-set slots at new);
  }

  -- none in the place of a value
  pub take_keeps : (slots : List (Slot T)) (at first spare : ℕ) (slot new : Slot T) (old : T) →
      AreLinked slots first spare → slice_get slots at ≡ Some slot → slot.value ≡ Some old →
      new.value ≡ None → new.next ≡ first → AreLinked (set slots at new) at (spare + 1)
  take_keeps slots at first spare slot new old are there was is next = record {
    links = subst (λ n. Links (set slots at new) n at) (sym (add-one spare)) (freed slots at spare first new (slice_get_within slots at slot there) (held_off slots at spare slot old there was) is next are.links);
    all = let count : spare_of (map value_of (set slots at new)) + 0 ≡ spare_of (map value_of slots) + 1 = counted slots at slot new (Some old) None there was is in omega (arith, are.all, count);
    fit = omega (arith, are.fit, length-set slots at new);
  }

  -- the first of the free slots, which the list names
  pub record IsHead (slots : List (Slot T)) (first less : ℕ) (slot : Slot T) : Type 0 where
    pub there : slice_get slots first ≡ Some slot
    pub free : slot.value ≡ None
    pub rest : Links slots less slot.next

  pub head_is : (slots : List (Slot T)) (first less : ℕ) (slot : Slot T) → Links slots (suc less) first →
      slot ≡ get_or slots first slot → IsHead slots first less slot
  head_is slots first less slot links read =
      let same : slot ≡ links.0 = read ∙ get_or_from_slice_get slots first links.0 slot links.1.there in
      let here : IsHead slots first less links.0 = record { there = links.1.there; free = links.1.free; rest = links.2 } in
      subst (IsHead slots first less) (sym same) here

  -- a value in the first of them
  pub put_keeps : (slots : List (Slot T)) (first spare less : ℕ) (slot new : Slot T) (value : T) →
      AreLinked slots first spare → suc less ≡ spare → IsHead slots first less slot →
      new.value ≡ Some value → AreLinked (set slots first new) slot.next less
  put_keeps slots first spare less slot new value are more head is = record {
    links = written_off slots first new less slot.next (first_off slots first less are.fit (subst (λ n. Links slots n first) (sym more) are.links)) head.rest;
    all = let count : spare_of (map value_of (set slots first new)) + 1 ≡ spare_of (map value_of slots) + 0 = counted slots first slot new None (Some value) head.there head.free is in omega (arith, are.all, more, count);
    fit = omega (arith, are.fit, length-set slots first new);
  }

  -- there is a first of them where there is room
  pub has_head : (slots : List (Slot T)) (first spare : ℕ) (slot : Slot T) (now : List (Option T)) →
      AreLinked slots first spare → map value_of slots ≡ now → 0 < spare_of now → slot ≡ get_or slots first slot →
      (suc (spare - 1) ≡ spare) × IsHead slots first (spare - 1) slot
  has_head slots first spare slot now are is some read =
      let count : spare ≡ spare_of now = are.all ∙ ap spare_of is in
      let more : suc (spare - 1) ≡ spare = omega (arith, count, some) in
      (more, head_is slots first (spare - 1) slot (subst (λ n. Links slots n first) (sym more) are.links) read)

  -- what contracts see where a slot is written
  pub viewed : (slots : List (Slot T)) (at : ℕ) (new : Slot T) (value : Option T) (now : List (Option T)) →
      map value_of slots ≡ now → new.value ≡ value → map value_of (set slots at new) ≡ set now at value
  viewed slots at new value now are is =
      map-set value_of slots at new ∙
      (ap (λ v. set (map value_of slots) at v) is ∙ ap (λ l. set l at value) are)

pub fell : (a b less spare : ℕ) → less ≡ a → spare ≡ b → suc less ≡ spare → a + 1 ≡ b
fell a b less spare one other more = omega arith

pub rose : (a b spare : ℕ) → spare + 1 ≡ a → spare ≡ b → a ≡ b + 1
rose a b spare one other = omega arith
