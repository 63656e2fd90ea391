-- What keeps the list of the free slots.
use Rattle.std.proofs.Common.{◌≡◌, ◌≢◌, ℕ, zero, suc, ◌^◌, ◌<◌, List, [], ◌∷◌, ◌++◌, length, set, Some, None, refl, ap, sym, subst, ◌∙◌, arith}
use Rattle.std.specs.Prelude.{slice_get}
use Rattle.std.proofs.lemmas.Option.{slice_get_within}
use Rattle.node_pool.specs.declared.slot.Slot.{Slot}
use Rattle.node_pool.specs.machine.Links.{Links}
use Rattle.node_pool.proofs.Written.{got_same, got_other, got_front, got_last}

module _ {T : Type 0} where
  -- the list from a slot is so long and no longer
  pub one_long : (slots : List (Slot T)) (m n at : ℕ) → length slots < 2 ^ 32 → Links slots m at → Links slots n at → m ≡ n
  one_long slots zero zero at fit p q = refl
  one_long slots zero (suc n) at fit p q = absurd (omega (arith, fit, slice_get_within slots at _ q.1.there))
  one_long slots (suc m) zero at fit p q = absurd (omega (arith, fit, slice_get_within slots at _ p.1.there))
  one_long slots (suc m) (suc n) at fit p q =
      let one = p.1.there in
      let other = q.1.there in
      let same : q.0 ≡ p.0 = cc in
      ap suc (one_long slots m n p.0.next fit p.2 (subst (λ s. Links slots n s.next) same q.2))

  -- no list of that many slots at most goes through this one
  abbrev pub IsOff : List (Slot T) → ℕ → ℕ → Type 0
  IsOff slots n at = (m : ℕ) → m < n → Links slots (suc m) at → ⊥

  -- what is written at a slot that the list does not go through leaves it
  pub written_off : (slots : List (Slot T)) (at : ℕ) (new : Slot T) (n first : ℕ) → IsOff slots n at →
      Links slots n first → Links (set slots at new) n first
  written_off slots at new zero first off p = p
  written_off slots at new (suc n) first off p =
      let other : first ≢ at = λ same. off n (omega arith) (subst (Links slots (suc n)) same p) in (
        p.0,
        record { there = got_other slots at first new other ∙ p.1.there; free = p.1.free },
        written_off slots at new n p.0.next (λ m below. off m (omega arith)) p.2,
      )

  -- it goes through no slot that holds a value
  pub held_off : (slots : List (Slot T)) (at n : ℕ) (slot : Slot T) (value : T) → slice_get slots at ≡ Some slot →
      slot.value ≡ Some value → IsOff slots n at
  held_off slots at n slot value there held m below p =
      let free = p.1.free in
      let where_free = p.1.there in
      cc

  -- nor, behind its first, through that one
  pub first_off : (slots : List (Slot T)) (at n : ℕ) → length slots < 2 ^ 32 → Links slots (suc n) at → IsOff slots n at
  first_off slots at n fit p m below q = absurd (omega (arith, below, one_long slots (suc n) (suc m) at fit p q))

  -- the list with a slot more in front
  pub freed : (slots : List (Slot T)) (at n first : ℕ) (new : Slot T) → at < length slots → IsOff slots n at →
      new.value ≡ None → new.next ≡ first → Links slots n first → Links (set slots at new) (suc n) at
  freed slots at n first new within off free next p = (
    new,
    record { there = got_same slots at new within; free = free },
    subst (Links (set slots at new) n) (sym next) (written_off slots at new n first off p),
  )

  -- slots more at the end leave it
  pub longer : (slots more : List (Slot T)) (n first : ℕ) → Links slots n first → Links (slots ++ more) n first
  longer slots more zero first p = p
  longer slots more (suc n) first p = (
    p.0,
    record { there = got_front slots more first p.0 p.1.there; free = p.1.free },
    longer slots more n p.0.next p.2,
  )

  pub pushed : (slots : List (Slot T)) (n first : ℕ) (new : Slot T) → new.value ≡ None → new.next ≡ first →
      Links slots n first → Links (slots ++ new ∷ []) (suc n) (length slots)
  pushed slots n first new free next p = (
    new,
    record { there = got_last slots new; free = free },
    subst (Links (slots ++ new ∷ []) n) (sym next) (longer slots (new ∷ []) n first p),
  )
