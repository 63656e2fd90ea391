-- What stands at the places of lists.
use Rattle.std.proofs.Common.{◌≡◌, ◌⊎◌, inl, inr, ℕ, zero, suc, ◌<◌, List, [], ◌∷◌, ◌++◌, length, Some, refl, ap, ◌∙◌, arith}
use Rattle.std.specs.Prelude.{slice_get}

-- an element that is put behind others, or one of these
pub pushed : {A : Type 0} (xs : List A) (x : A) (k : ℕ) (y : A) → slice_get (xs ++ x ∷ []) k ≡ Some y → (slice_get xs k ≡ Some y) ⊎ ((k ≡ length xs) × (y ≡ x))
pushed [] x zero y at = inr (refl, (let one : Some x ≡ Some y = at in cc))
pushed [] x (suc k) y at = absurd (let none : ⊥ = cc in none)
pushed (z ∷ xs) x zero y at = inl at
pushed (z ∷ xs) x (suc k) y at = by (pushed xs x k y at)
  where
    by : (slice_get xs k ≡ Some y) ⊎ ((k ≡ length xs) × (y ≡ x)) → (slice_get (z ∷ xs) (suc k) ≡ Some y) ⊎ ((suc k ≡ length (z ∷ xs)) × (y ≡ x))
    by (inl here) = inl here
    by (inr last) = inr (ap suc last.0, last.1)

-- lists that have the same at each place
pub same_lists : {A : Type 0} (xs ys : List A) → length xs ≡ length ys → ((k : ℕ) (x y : A) → slice_get xs k ≡ Some x → slice_get ys k ≡ Some y → x ≡ y) → xs ≡ ys
same_lists [] [] long same = refl
same_lists [] (y ∷ ys) long same = absurd (let none : ⊥ = cc in none)
same_lists (x ∷ xs) [] long same = absurd (let none : ⊥ = cc in none)
same_lists (x ∷ xs) (y ∷ ys) long same =
    let shorter : length xs ≡ length ys = omega (arith, long) in
    ap (λ z. z ∷ xs) (same zero x y refl refl) ∙ ap (λ zs. y ∷ zs) (same_lists xs ys shorter (λ k a b there here. same (suc k) a b there here))

-- what stands at a place within a list
pub there : {A : Type 0} (xs : List A) (k : ℕ) → k < length xs → (x : A) × (slice_get xs k ≡ Some x)
there [] k within = absurd (omega (arith, within))
there (x ∷ xs) zero within = (x, refl)
there (x ∷ xs) (suc k) within = there xs k (omega (arith, within))
