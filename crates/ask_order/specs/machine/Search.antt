-- What is known while places are put into an order.
use Rattle.std.specs.Prelude.{◌≡◌, ℕ, ◌<◌, Bool, true, false, not, List, length, slice_index_or}
use Rattle.ask_order.specs.Order.{StandsIn, IsBehind, IsOnce, IsLayered}

-- a place that is there is not yet in the order
abbrev pub is_open : List Bool → ℕ → Bool
is_open known place = not (slice_index_or known place true)

-- what is marked stands in the order, behind what it asks
pub record IsKept (asked : List (List ℕ)) (known : List Bool) (order : List ℕ) : Type 0 where
  pub long : length known ≡ length asked
  pub marked : (place : ℕ) → place < length asked → is_open known place ≡ false → StandsIn order place
  pub behind : IsBehind asked order
  pub once : IsOnce order
  pub settled : (place : ℕ) → StandsIn order place → (place < length asked) × (is_open known place ≡ false)

-- what was marked stays marked
abbrev pub StaysMarked : List Bool → List Bool → Type 0
StaysMarked old new = (place : ℕ) → is_open old place ≡ false → is_open new place ≡ false

-- a place was put into the order, unless one reaches itself
pub record Goes (asked : List (List ℕ)) (root : ℕ) (old new : List Bool) (order : List ℕ) : Type 0 where
  pub kept : IsKept asked new order
  pub stays : StaysMarked old new
  pub there : (number : ℕ → ℕ) → IsLayered asked number → root < length asked → is_open new root ≡ false
