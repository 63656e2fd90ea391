-- How a pool keeps the list of its free slots.
use Rattle.std.specs.Prelude.{◌≡◌, ℕ, zero, suc, ◌-◌, ◌^◌, ◌<◌, List, length, map, Option, Some, None, slice_get}
use Rattle.node_pool.specs.Slots.{spare_of}
use Rattle.node_pool.specs.declared.slot.Slot.{Slot}

module _ {T : Type 0} where
  abbrev pub value_of : Slot T → Option T
  value_of slot = slot.value

  -- the slot of this number is free, and names this one as the next
  pub record IsFree (slots : List (Slot T)) (at : ℕ) (slot : Slot T) : Type 0 where
    pub there : slice_get slots at ≡ Some slot
    pub free : slot.value ≡ None

  -- from this slot on so many free ones each name the next, and the last of them names none
  abbrev pub Links : List (Slot T) → ℕ → ℕ → Type 0
  Links slots zero first = first ≡ 2 ^ 32 - 1
  Links slots (suc count) first = (slot : Slot T) × IsFree slots first slot × Links slots count slot.next

  -- the list holds all free slots, whose numbers fit
  pub record AreLinked (slots : List (Slot T)) (first spare : ℕ) : Type 0 where
    pub links : Links slots spare first
    pub all : spare ≡ spare_of (map value_of slots)
    pub fit : length slots < 2 ^ 32
