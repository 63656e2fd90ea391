-- Which numbers of a list are tried in the place of an operand: those that it takes while one beside
-- them is not taken, so that each end of what it takes is among them, and some that are always tried
-- where they are taken.
use Rattle.std.specs.Prelude.{ℕ, zero, suc, Bool, false, not, ◌&&◌, ◌||◌, List, length, filter, slice_get}
use Rattle.std.specs.List.{range_with_len}
use Rattle.std.specs.Option.{unwrap_or}

-- whether the number at a place is taken; none stands behind the list
abbrev pub is_taken : List Bool → ℕ → Bool
is_taken taken place = unwrap_or (slice_get taken place) false

-- whether both neighbours of a place are taken; the first has none before it
abbrev pub are_beside : List Bool → ℕ → Bool
are_beside taken zero = false
are_beside taken (suc place) = is_taken taken place && is_taken taken (suc (suc place))

-- taken, while a neighbour isn't or the place is always tried
abbrev pub is_kept : List Bool → List Bool → ℕ → Bool
is_kept taken always place =
    is_taken taken place && (not (are_beside taken place) || is_taken always place)

-- the places of the edges, and those that are always tried, in order
abbrev pub edges : List Bool → List Bool → List ℕ
edges taken always = filter (is_kept taken always) (range_with_len 0 (length taken))
