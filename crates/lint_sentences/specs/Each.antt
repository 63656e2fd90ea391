-- What is made of numbers, one after the other.
use Rattle.std.specs.Prelude.{ℕ, zero, suc, ◌+◌, List, [], ◌++◌}

-- the texts of so many numbers from one on
unfoldable pub each_from : (ℕ → List ℕ) → ℕ → ℕ → List ℕ
each_from text k zero = []
each_from text k (suc left) = text k ++ each_from text (k + 1) left
