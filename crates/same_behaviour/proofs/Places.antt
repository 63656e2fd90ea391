-- Places of a list.
use Rattle.std.proofs.Common.{◌≡◌, ℕ, zero, suc, ◌+◌, ◌≤◌, ◌<◌, arith, drop, length, List, [], ◌∷◌, Some, None, refl, sym, ap, ◌∙◌}
use Rattle.std.proofs.Math.Seq.{drop-nil}
use Rattle.std.specs.Prelude.{slice_get}

pub get_dropped : {X : Type 0} (xs : List X) (n : ℕ) (x : X) (rest : List X) → drop n xs ≡ x ∷ rest → slice_get xs n ≡ Some x
get_dropped [] n x rest is = absurd (let no : [] ≡ x ∷ rest = sym (drop-nil n) ∙ is in let none : ⊥ = cc in none)
get_dropped (y ∷ ys) zero x rest is = let same : y ≡ x = cc in ap Some same
get_dropped (y ∷ ys) (suc n) x rest is = get_dropped ys n x rest is

pub drop_next : {X : Type 0} (xs : List X) (n : ℕ) (x : X) (rest : List X) → drop n xs ≡ x ∷ rest → drop (n + 1) xs ≡ rest
drop_next [] n x rest is = absurd (let no : [] ≡ x ∷ rest = sym (drop-nil n) ∙ is in let none : ⊥ = cc in none)
drop_next (y ∷ ys) zero x rest is = let same : ys ≡ rest = cc in same
drop_next (y ∷ ys) (suc n) x rest is = let more : suc n + 1 ≡ suc (n + 1) = omega arith in ap (λ k. drop k (y ∷ ys)) more ∙ drop_next ys n x rest is

pub get_past : {X : Type 0} (xs : List X) (n : ℕ) → drop n xs ≡ [] → slice_get xs n ≡ None
get_past [] n is = refl
get_past (y ∷ ys) zero is = absurd (let none : ⊥ = cc in none)
get_past (y ∷ ys) (suc n) is = get_past ys n is

-- a place with something at it is within, and one without is the end
pub within_dropped : {X : Type 0} (xs : List X) (n : ℕ) (x : X) (rest : List X) → drop n xs ≡ x ∷ rest → n < length xs
within_dropped [] n x rest is = absurd (let no : [] ≡ x ∷ rest = sym (drop-nil n) ∙ is in let none : ⊥ = cc in none)
within_dropped (y ∷ ys) zero x rest is = omega arith
within_dropped (y ∷ ys) (suc n) x rest is = let more = within_dropped ys n x rest is in omega (arith, more)

pub end_dropped : {X : Type 0} (xs : List X) (n : ℕ) → n ≤ length xs → drop n xs ≡ [] → n ≡ length xs
end_dropped [] n within is = omega (arith, within)
end_dropped (y ∷ ys) zero within is = absurd (let none : ⊥ = cc in none)
end_dropped (y ∷ ys) (suc n) within is = let more = end_dropped ys n (omega (arith, within)) is in omega (arith, more)
