-- The values under ids, where a slot is written.
use Rattle.std.proofs.Common.{◌≡◌, ◌≢◌, ℕ, zero, suc, ◌<◌, List, [], ◌∷◌, length, set, Option, Some, None, ap, arith}
use Rattle.std.specs.Prelude.{slice_get, option_and_then}
use Rattle.node_pool.specs.Slots.{value_at, spare_of}
use Rattle.node_pool.proofs.Written.{got_same, got_other}
use Rattle.node_pool.proofs.Counted.{written}

module _ {T : Type 0} where
  -- the slot of a live id
  pub held_slot : (slots : List (Option T)) (id : ℕ) (value : T) → value_at slots id ≡ Some value →
      slice_get slots id ≡ Some (Some value)
  held_slot [] id value is = absurd (cc)
  held_slot (slot ∷ slots) zero value is = ap Some is
  held_slot (slot ∷ slots) (suc id) value is = held_slot slots id value is

  pub free_slot : (slots : List (Option T)) (id : ℕ) → slice_get slots id ≡ Some None → value_at slots id ≡ None
  free_slot slots id is = ap (option_and_then (λ slot. slot)) is

  pub written_there : (slots : List (Option T)) (id : ℕ) (slot : Option T) → id < length slots →
      value_at (set slots id slot) id ≡ slot
  written_there slots id slot within = ap (option_and_then (λ slot. slot)) (got_same slots id slot within)

  pub written_others : (slots : List (Option T)) (id other : ℕ) (slot : Option T) → other ≢ id →
      value_at (set slots id slot) other ≡ value_at slots other
  written_others slots id other slot differ = ap (option_and_then (λ slot. slot)) (got_other slots id other slot differ)

  -- a value in another's place leaves the room
  pub written_spare : (slots : List (Option T)) (id : ℕ) (old value : T) → value_at slots id ≡ Some old →
      spare_of (set slots id (Some value)) ≡ spare_of slots
  written_spare slots id old value is = omega (arith, written slots id (Some old) (Some value) (held_slot slots id old is))
