-- Rows that have words only where they are needed.
use Rattle.std.specs.Prelude.{◌≡◌, ℕ, ◌<◌, ◌≤◌, List, length, All}

-- each row has so many words, or none
pub record AreSparse (width : ℕ) (rows : List (List ℕ)) : Type 0 where
  pub most : All (λ row. length row ≤ width) rows
  pub fewer : All (λ row. length row < width → length row ≡ 0) rows
