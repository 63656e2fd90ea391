-- Values under ids: each stands in the slot that its id numbers, and a slot may hold none.
use Rattle.std.specs.Prelude.{ℕ, List, Option, IsSome, is_none, option_and_then, slice_get}
use Rattle.std.specs.List.{count_by}

module _ {T : Type 0} where
  -- the value under an id, where it is live
  abbrev pub value_at : List (Option T) → ℕ → Option T
  value_at slots id = option_and_then (λ slot. slot) (slice_get slots id)

  abbrev pub IsLive : List (Option T) → ℕ → Type 0
  IsLive slots id = IsSome (value_at slots id)

  -- for how many values more there is room
  abbrev pub spare_of : List (Option T) → ℕ
  spare_of slots = count_by is_none slots
