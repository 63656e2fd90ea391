-- Rows for registers whose numbers have 32 bits.
use Rattle.std.specs.Prelude.{ℕ, ◌^◌, ◌≤◌, List, length, All}

-- each row has no more words than numbers of 32 bits ask for
abbrev pub AreNarrow : List (List ℕ) → Type 0
AreNarrow rows = All (λ row. length row ≤ 2 ^ 26) rows
