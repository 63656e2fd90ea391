-- What tables have.
use Rattle.std.proofs.Common.{◌≡◌, ℕ, ◌-◌, ◌*◌, ◌^◌, ◌≤◌, false, List, length, get_or, sym, ap, ◌∙◌, inl, inr, sum, arith}
use Rattle.std.specs.Prelude.{All}
use Rattle.std.proofs.lemmas.Option.{slice_get_cases}
use Rattle.std.proofs.lemmas.List.Sums.{sum_by-le}
use Rattle.reg_rows.specs.Row.{has}
use Rattle.reg_rows.specs.Table.{at_row, has_at, total, IsTable}

-- rows of no registers have none
pub has_at-none : (rows : List (List ℕ)) → All (λ row. (reg : ℕ) → has row reg ≡ false) rows → (at reg : ℕ) → has_at rows at reg ≡ false
has_at-none rows none at reg =
    elim (slice_get_cases rows at).1 [
      | inl w ↦ ap (λ o. at_row o reg) w.2 ∙ (ap (λ row. has row reg) (sym w.3) ∙ none at w.0 w.1 reg)
      | inr w ↦ ap (λ o. at_row o reg) w.1
    ]

pub IsTable-zero : (width : ℕ) (rows : List (List ℕ)) → width ≤ 2 ^ 26 → All (λ row. length row ≡ width) rows → All (λ row. sum row ≡ 0) rows → IsTable width rows
IsTable-zero width rows small widths zero = record { small = small; widths = widths; fits = λ k d h. (let z : sum (get_or rows k d) ≡ 0 = zero k d h in omega arith) }

-- a table's total has a bound
pub total-le : (width : ℕ) (rows : List (List ℕ)) → IsTable width rows → total rows ≤ length rows * (width * (2 ^ 64 - 1))
total-le width rows t = sum_by-le sum (width * (2 ^ 64 - 1)) rows t.fits
