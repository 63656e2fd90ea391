-- What is found first, and what some and none of the first elements of a list pass.
use Rattle.std.proofs.Common.{◌≡◌, ℕ, zero, suc, ◌<◌, Bool, true, false, List, [], ◌∷◌, take, Some, None, cond, refl, sym, ap, ◌∙◌, inl, inr, arith}
use Rattle.std.specs.Prelude.{slice_get, All}
use Rattle.std.specs.List.{list_any, find}
use Rattle.std.proofs.lemmas.Bool.{cases_Bool, or_cases, or_parts, false≢true}
use Rattle.std.proofs.lemmas.Option.{same_Some, none-some}

-- some of the first k passes
pub some_of : {X : Type 0} (f : X → Bool) (xs : List X) (k : ℕ) → list_any f (take k xs) ≡ true → (j : ℕ) × (x : X) × (j < k) × (slice_get xs j ≡ Some x) × (f x ≡ true)
some_of f [] zero h = absurd (false≢true h)
some_of f [] (suc k) h = absurd (false≢true h)
some_of f (x ∷ xs) zero h = absurd (false≢true h)
some_of f (x ∷ xs) (suc k) h =
    elim (or_cases (f x) (list_any f (take k xs)) h) [
      | inl a ↦ (0, x, omega arith, refl, a)
      | inr b ↦ let r = some_of f xs k b in (suc r.0, r.1, omega (arith, r.2), r.3, r.4)
    ]

-- none of the first k passes
pub none_of : {X : Type 0} (f : X → Bool) (xs : List X) (k j : ℕ) (x : X) → list_any f (take k xs) ≡ false → j < k → slice_get xs j ≡ Some x → f x ≡ false
none_of f [] k j x h l e = absurd (none-some x e)
none_of f (y ∷ xs) zero j x h l e = absurd (omega arith)
none_of f (y ∷ xs) (suc k) zero x h l e = ap f (sym (same_Some y x e)) ∙ (or_parts (f y) (list_any f (take k xs)) h).0
none_of f (y ∷ xs) (suc k) (suc j) x h l e = none_of f xs k j x (or_parts (f y) (list_any f (take k xs)) h).1 (omega arith) e

fails_before : {X : Type 0} (f : X → Bool) (y : X) (xs : List X) → f y ≡ false → (i : ℕ) → ((j : ℕ) (z : X) → j < i → slice_get xs j ≡ Some z → f z ≡ false) → (j : ℕ) (z : X) → j < suc i → slice_get (y ∷ xs) j ≡ Some z → f z ≡ false
fails_before f y xs n i h zero z l w = ap f (sym (same_Some y z w)) ∙ n
fails_before f y xs n i h (suc j) z l w = h j z (omega arith) w

-- what is found passes, and what stands before it does not
pub find_first : {X : Type 0} (f : X → Bool) (xs : List X) (x : X) → find f xs ≡ Some x → (f x ≡ true) × ((i : ℕ) × (slice_get xs i ≡ Some x) × ((j : ℕ) (y : X) → j < i → slice_get xs j ≡ Some y → f y ≡ false))
find_first f [] x e = absurd (none-some x e)
find_first f (y ∷ xs) x e =
    elim (cases_Bool (f y)) [
      | inl t ↦
          let s : y ≡ x = same_Some y x (sym (ap (λ b. cond b (Some y) (find f xs)) t) ∙ e) in
          (ap f (sym s) ∙ t, (0, ap Some s, λ j z l w. absurd (omega arith)))
      | inr n ↦
          let r = find_first f xs x (sym (ap (λ b. cond b (Some y) (find f xs)) n) ∙ e) in
          (r.0, (suc r.1.0, r.1.1, fails_before f y xs n r.1.0 r.1.2))
    ]

pub find_none : {X : Type 0} (f : X → Bool) (xs : List X) (i : ℕ) (x : X) → find f xs ≡ None → slice_get xs i ≡ Some x → f x ≡ false
find_none f [] i x e w = absurd (none-some x w)
find_none f (y ∷ xs) zero x e w =
    elim (cases_Bool (f y)) [
      | inl t ↦ absurd (none-some y (sym e ∙ ap (λ b. cond b (Some y) (find f xs)) t))
      | inr n ↦ ap f (sym (same_Some y x w)) ∙ n
    ]
find_none f (y ∷ xs) (suc i) x e w =
    elim (cases_Bool (f y)) [
      | inl t ↦ absurd (none-some y (sym e ∙ ap (λ b. cond b (Some y) (find f xs)) t))
      | inr n ↦ find_none f xs i x (sym (ap (λ b. cond b (Some y) (find f xs)) n) ∙ e) w
    ]

pub find_within : {X : Type 0} (f g : X → Bool) (xs : List X) → All (λ x. f x ≡ g x) xs → find f xs ≡ find g xs
find_within f g [] h = refl
find_within f g (x ∷ xs) h = ap (λ b. cond b (Some x) (find f xs)) (h 0 x (omega arith)) ∙ ap (λ o. cond (g x) (Some x) o) (find_within f g xs (λ k d l. h (suc k) d (omega arith)))
