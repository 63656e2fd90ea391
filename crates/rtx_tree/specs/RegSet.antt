-- Sets of registers as lists of their numbers.
use Rattle.std.specs.Prelude.{ℕ, zero, suc, ◌*◌, Bool, ◌==◌, List, [], ◌∷◌, ◌++◌, length, if◌then◌else◌}
use Rattle.std.specs.List.{list_any}
use Rattle.reg_rows.specs.Row.{has}

-- the list has the register
abbrev pub has_reg : List ℕ → ℕ → Bool
has_reg regs reg = list_any (λ r. r == reg) regs

-- the registers below n that a row has, in increasing order
unfoldable pub members_below : List ℕ → ℕ → List ℕ
members_below row zero = []
members_below row (suc n) = members_below row n ++ (if has row n then n ∷ [] else [])

-- the registers that a row has, in increasing order
unfoldable pub members : List ℕ → List ℕ
members row = members_below row (64 * length row)
