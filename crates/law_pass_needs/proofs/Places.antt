-- Properties of all members of a list, in its pieces and at its places.
use Rattle.std.proofs.Common.{◌≡◌, ℕ, zero, suc, List, [], ◌∷◌, ◌++◌, Some, refl, subst}
use Rattle.std.specs.Prelude.{slice_get, take, drop}
use Rattle.std.specs.List.{AllByRecursion}

module _ {A : Type 0} (P : A → Type 0) where
  pub all_joined : (xs ys : List A) → AllByRecursion P xs → AllByRecursion P ys → AllByRecursion P (xs ++ ys)
  all_joined [] ys all more = more
  all_joined (x ∷ xs) ys all more = (all.0, all_joined xs ys all.1 more)

  pub all_taken : (n : ℕ) (xs : List A) → AllByRecursion P xs → AllByRecursion P (take n xs)
  all_taken zero xs all = tt
  all_taken (suc n) [] all = tt
  all_taken (suc n) (x ∷ xs) all = (all.0, all_taken n xs all.1)

  pub all_dropped : (n : ℕ) (xs : List A) → AllByRecursion P xs → AllByRecursion P (drop n xs)
  all_dropped zero xs all = all
  all_dropped (suc n) [] all = tt
  all_dropped (suc n) (x ∷ xs) all = all_dropped n xs all.1

  pub at_place : (xs : List A) → AllByRecursion P xs → (place : ℕ) (x : A) → slice_get xs place ≡ Some x → P x
  at_place [] all place x at = absurd (let none : ⊥ = cc in none)
  at_place (y ∷ xs) all zero x at = let same : y ≡ x = cc in subst P same all.0
  at_place (y ∷ xs) all (suc place) x at = at_place xs all.1 place x at

  -- what holds at each place holds of all
  pub all_at : (xs : List A) → ((place : ℕ) (x : A) → slice_get xs place ≡ Some x → P x) → AllByRecursion P xs
  all_at [] each = tt
  all_at (x ∷ xs) each = (each zero x refl, all_at xs (λ place y at. each (suc place) y at))

-- what holds of all is enough for another property of all
pub all_weaker : {A : Type 0} (P Q : A → Type 0) → ((x : A) → P x → Q x) → (xs : List A) → AllByRecursion P xs → AllByRecursion Q xs
all_weaker P Q step [] all = tt
all_weaker P Q step (x ∷ xs) all = (step x all.0, all_weaker P Q step xs all.1)
