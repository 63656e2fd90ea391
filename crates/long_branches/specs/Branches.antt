-- Which branches of a function's code are long. A conditional branch reaches 4 KiB ("The RISC-V
-- Instruction Set Manual, Volume I: Unprivileged ISA", "Conditional Branches"); where its label is
-- further, it is the opposite branch over a jump ("RISC-V Assembly Programmer's Manual", far
-- branches). Long branches move labels, so others may have to become long: the least set of long
-- branches is looked for under which every other branch reaches its label.
use Rattle.std.specs.Prelude.{◌≡◌, ℕ, zero, suc, ◌+◌, ◌*◌, ◌≤◌, Bool, true, false, if◌then◌else◌, List, length, Option, Some, None, slice_get, slice_index, unwrap_or}
use Rattle.long_branches.specs.declared.piece.Piece.{Piece}
use Rattle.long_branches.specs.declared.piece.Piece.TheVariants.{Fixed, Branch}

-- A set of long branches is told by a flag for each piece of the code. What has no flag is not long.
abbrev pub is_long : List Bool → ℕ → Bool
is_long longs at = unwrap_or (slice_get longs at) false

-- how many words a piece has: a long branch has two
abbrev pub width : Option Piece → Bool → ℕ
width None long = 0
width (Some (Fixed words)) long = words
width (Some (Branch to)) long = if long then 2 else 1

-- how many words the first pieces have, so many of them: that is where the next piece begins
abbrev pub place : List Piece → List Bool → ℕ → ℕ
place pieces longs zero = 0
place pieces longs (suc n) =
    place pieces longs n + width (slice_get pieces n) (is_long longs n)

-- the places of all pieces under some flags, and that of the end
pub record ArePlaces (pieces : List Piece) (longs : List Bool) (places : List ℕ) : Type 0 where
  pub has_each : length places ≡ length pieces + 1
  pub are : (n : ℕ) → n ≤ length pieces → slice_index places n ≡ place pieces longs n

-- from one place to another it is at least -4,096 and at most 4,094 bytes. Places are counted in
-- words of four bytes
abbrev pub Reaches : ℕ → ℕ → Type 0
Reaches from to = (4 * from ≤ 4 * to + 4096) × (4 * to ≤ 4 * from + 4094)

-- every branch that is not among the long ones reaches where its piece begins
abbrev pub IsClosed : List Piece → List Bool → Type 0
IsClosed pieces longs = (at to : ℕ) → slice_get pieces at ≡ Some (Branch to) → is_long longs at ≡ false → Reaches (place pieces longs at) (place pieces longs to)

-- all that is long under some flags is long under others
abbrev pub IsPart : List Bool → List Bool → Type 0
IsPart longs others = (at : ℕ) → is_long longs at ≡ true → is_long others at ≡ true

-- a flag for each piece; closed, and part of each set that is closed
pub record IsLeast (pieces : List Piece) (longs : List Bool) : Type 0 where
  pub has_each : length longs ≡ length pieces
  pub is_closed : IsClosed pieces longs
  pub is_part : (others : List Bool) → IsClosed pieces others → IsPart longs others

-- there is one least set
abbrev pub LeastIsOne : Type 0
LeastIsOne = (pieces : List Piece) (longs others : List Bool) →
    IsLeast pieces longs → IsLeast pieces others → longs ≡ others
