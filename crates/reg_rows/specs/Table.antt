-- Tables of rows of registers.
use Rattle.std.specs.Prelude.{◌≡◌, ℕ, ◌-◌, ◌*◌, ◌^◌, ◌≤◌, Bool, false, List, Option, Some, None, slice_get, length, sum, sum_by, All}
use Rattle.reg_rows.specs.Row.{has}

abbrev pub at_row : Option (List ℕ) → ℕ → Bool
at_row None reg = false
at_row (Some row) reg = has row reg

-- the row at a place has the register; no row stands past the last
abbrev pub has_at : List (List ℕ) → ℕ → ℕ → Bool
has_at rows at reg = at_row (slice_get rows at) reg

-- a number that grows with each register that is new
abbrev pub total : List (List ℕ) → ℕ
total rows = sum_by sum rows

-- each row has so many words of 64 bits, and no more than numbers of 32 bits ask for
pub record IsTable (width : ℕ) (rows : List (List ℕ)) : Type 0 where
  pub small : width ≤ 2 ^ 26
  pub widths : All (λ row. length row ≡ width) rows
  pub fits : All (λ row. sum row ≤ width * (2 ^ 64 - 1)) rows
