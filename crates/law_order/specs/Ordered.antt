-- Items in the order in which their jobs come.
use Rattle.std.specs.Prelude.{◌≡◌, ℕ, List, [], ◌∷◌, length, map, slice_index_or}
use Rattle.std.specs.List.Sorted.{IsPermutation}
use Rattle.job_order.specs.Order.{IsOrder}

-- the items at some places
abbrev pub in_order : {A : Type 0} → List A → List ℕ → List A
in_order [] order = []
in_order (x ∷ xs) order = map (λ place. slice_index_or (x ∷ xs) place x) order

-- in whatever order the jobs of some items come, these are the same items
abbrev pub StaySame : {A : Type 0} → List A → Type 0
StaySame items = (cycles order : List ℕ) → length cycles ≡ length items → IsOrder cycles order →
    IsPermutation items (in_order items order)
