-- A text cut into pieces of several bytes each.
use Rattle.std.specs.Prelude.{ℕ, zero, suc, List, [], ◌∷◌, Option, Some, option_map, option_and_then}

-- The pieces of a text whose first k bytes belong to a piece before it. cut gives the piece at the
-- front of some bytes, and how many bytes it has behind its first; a text has no pieces where cut
-- gives none at a place where one should begin.
abbrev pub pieces : {A : Type 0} → (List ℕ → Option (A × ℕ)) → ℕ → List ℕ → Option (List A)
pieces cut k [] = Some []
pieces cut (suc k) (b ∷ rest) = pieces cut k rest
pieces cut zero (b ∷ rest) =
    option_and_then (λ p. option_map (λ ps. p.0 ∷ ps) (pieces cut p.1 rest)) (cut (b ∷ rest))
