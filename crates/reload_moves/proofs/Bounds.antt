-- Where something stands in a list.
use Rattle.std.proofs.Common.{◌≡◌, ℕ, ◌+◌, ◌<◌, Bool, true, false, cond, List, [], ◌∷◌, Option, Some, None, length, arith}
use Rattle.std.specs.List.{position_from}

pub position_within : {X : Type 0} (test : X → Bool) (xs : List X) (i k : ℕ) → position_from test i xs ≡ Some k → k < i + length xs
position_within test [] i k e = absurd (let never : ⊥ = cc in never)
position_within test (x ∷ xs) i k e =
    (elim (test x) as (λ b. cond b (Some i) (position_from test (i + 1) xs) ≡ Some k → k < i + length (x ∷ xs)) [
      | true ↦ λ found. (let same : i ≡ k = cc in omega (arith, same))
      | false ↦ λ later. omega (arith, position_within test xs (i + 1) k later)
    ]) e
