-- Places that ask one another, and an order in which each stands behind those that it asks
-- (a topological order of a graph without cycles).
use Rattle.std.specs.Prelude.{◌≡◌, ℕ, ◌+◌, ◌-◌, ◌^◌, ◌<◌, min, List, [], length, sum_by, Some, slice_get, slice_index_or}

-- the places that the one at a place asks
abbrev pub asked_at : List (List ℕ) → ℕ → List ℕ
asked_at asked place = slice_index_or asked place []

-- a place stands in an order
abbrev pub StandsIn : List ℕ → ℕ → Type 0
StandsIn order place = (at : ℕ) × (slice_get order at ≡ Some place)

-- a place asks another, which is there
pub record Asks (asked : List (List ℕ)) (place other : ℕ) : Type 0 where
  pub asks : StandsIn (asked_at asked place) other
  pub there : other < length asked

-- No place reaches itself: each has a number below that of those that ask it, and no number is past
-- how many there are.
pub record IsLayered (asked : List (List ℕ)) (number : ℕ → ℕ) : Type 0 where
  pub falls : (place other : ℕ) → Asks asked place other → number other < number place
  pub small : (place : ℕ) → place < length asked → number place < length asked

-- what stands at a place of an order is behind all that it asks
abbrev pub IsBehind : List (List ℕ) → List ℕ → Type 0
IsBehind asked order =
    (at place other : ℕ) → slice_get order at ≡ Some place → Asks asked place other →
    (before : ℕ) × (before < at) × (slice_get order before ≡ Some other)

-- an order has a place once
abbrev pub IsOnce : List ℕ → Type 0
IsOnce order =
    (a b place : ℕ) → slice_get order a ≡ Some place → slice_get order b ≡ Some place → a ≡ b

-- each that is there stands there once, behind what it asks, and all stand there where none reaches
-- itself
pub record IsOrder (asked : List (List ℕ)) (order : List ℕ) : Type 0 where
  pub there : (place : ℕ) → StandsIn order place → place < length asked
  pub once : IsOnce order
  pub behind : IsBehind asked order
  pub whole : (number : ℕ → ℕ) → IsLayered asked number → (place : ℕ) → place < length asked →
      StandsIn order place

-- ---- how many are asked

abbrev pub weight_at : List ℕ → ℕ → ℕ
weight_at weights place = slice_index_or weights place 0

-- one, and those for each that is asked, or the greatest number of 32 bits where there are more
abbrev pub weighs : List ℕ → List ℕ → ℕ
weighs weights places = min (1 + sum_by (weight_at weights) places) (2 ^ 32 - 1)

-- Each place of an order has as its weight how many are asked for it: it, and for each that it asks
-- as many as for that.
pub record AreWeights (asked : List (List ℕ)) (order weights : List ℕ) : Type 0 where
  pub long : length weights ≡ length asked
  pub each : (place : ℕ) → StandsIn order place →
      weight_at weights place ≡ weighs weights (asked_at asked place)
