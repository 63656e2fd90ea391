-- A list of which the bytes from a place on are told.
use Rattle.std.proofs.Common.{◌≡◌, ℕ, zero, suc, ◌<◌, List, [], ◌∷◌, length, map, set, get_or, refl, ap, arith}
use Rattle.md_forms.specs.Shown.{shown_byte}

-- the bytes from a place on as they are told
abbrev pub shown_from : ℕ → List ℕ → List ℕ
shown_from zero xs = map shown_byte xs
shown_from (suc n) [] = []
shown_from (suc n) (x ∷ xs) = x ∷ shown_from n xs

-- one more of them was
pub shown_next : (xs : List ℕ) (i : ℕ) → i < length xs → shown_from (suc i) (set xs i (shown_byte (get_or xs i 0))) ≡ shown_from i xs
shown_next [] i h = absurd (let none : ⊥ = omega (arith, h) in none)
shown_next (x ∷ xs) zero h = refl
shown_next (x ∷ xs) (suc i) h = ap (λ l. x ∷ l) (shown_next xs i (omega (arith, h)))

-- all of them were
pub shown_all : (xs : List ℕ) → shown_from (length xs) xs ≡ xs
shown_all [] = refl
shown_all (x ∷ xs) = ap (λ l. x ∷ l) (shown_all xs)
