-- What one round of the growing set does.
use Rattle.std.specs.Prelude.{◌≡◌, ℕ, ◌+◌, ◌-◌, ◌<◌, ◌≤◌, min, Bool, true, false, not, ◌&&◌, ◌||◌, nat_le, nat_lt, List, length, Option, Some, None, slice_get, slice_index}
use Rattle.std.specs.List.{count_by}
use Rattle.long_branches.specs.Branches.{is_long, IsClosed, IsPart}
use Rattle.long_branches.specs.declared.piece.Piece.{Piece}
use Rattle.long_branches.specs.declared.piece.Piece.TheVariants.{Fixed, Branch}

-- whether a place is reached from another one
abbrev pub reaches : ℕ → ℕ → Bool
reaches from to = nat_le from (to + 1024) && nat_le to (from + 1023)

-- whether a piece is a branch that doesn't reach
abbrev pub misses : List ℕ → Option Piece → ℕ → Bool
misses places None at = false
misses places (Some (Fixed words)) at = false
misses places (Some (Branch to)) at =
    not (reaches (slice_index places at) (slice_index places (min to (length places - 1))))

-- how many are long
abbrev pub count : List Bool → ℕ
count longs = count_by (λ long. long) longs

-- A round that has come to a piece: of those before it the branches are long that were, and those
-- that didn't reach. None came in, or there are more
pub record IsRound (pieces : List Piece) (places : List ℕ) (old new : List Bool) (upto : ℕ)
    (some : Bool) : Type 0 where
  pub has_each : length new ≡ length old
  pub are : (at : ℕ) →
      is_long new at ≡ (is_long old at || (nat_lt at upto && misses places (slice_get pieces at) at))
  pub same : some ≡ false → new ≡ old
  pub more : some ≡ true → count old < count new
  pub not_fewer : count old ≤ count new

-- Flags that grew from none: one a piece, and no branch is long that needn't be
pub record HasGrown (pieces : List Piece) (longs : List Bool) : Type 0 where
  pub has_each : length longs ≡ length pieces
  pub is_part : (others : List Bool) → IsClosed pieces others → IsPart longs others
