-- A text cut at a byte.
use Rattle.std.specs.Prelude.{ℕ, ◌==◌, List, [], ◌∷◌, Option, Some, None, if◌then◌else◌, option_map}

-- what stands before and behind the first of a byte
abbrev pub cut : ℕ → List ℕ → Option (List ℕ × List ℕ)
cut byte [] = None
cut byte (b ∷ rest) = if b == byte then Some ([], rest) else option_map (λ parts. (b ∷ parts.0, parts.1)) (cut byte rest)
