-- Lists with one element more, and what is found in them.
use Rattle.std.proofs.Common.{◌≡◌, ◌⊎◌, ⊎_elim, inl, inr, ℕ, zero, suc, ◌<◌, Bool, true, false, cond, List, [], ◌∷◌, ◌++◌, length, slice_get, find, Option, Some, None, refl, ap, subst, arith}
use Rattle.ask_order.specs.Order.{StandsIn}

pub one_more : (xs : List ℕ) (y k p : ℕ) → slice_get (xs ++ y ∷ []) k ≡ Some p → ((k < length xs) × (slice_get xs k ≡ Some p)) ⊎ ((k ≡ length xs) × (y ≡ p))
one_more [] y zero p is = inr (refl, (let same : y ≡ p = cc in same))
one_more [] y (suc k) p is = absurd (let none : ⊥ = cc in none)
one_more (x ∷ xs) y zero p is = inl (omega arith, is)
one_more (x ∷ xs) y (suc k) p is = ⊎_elim
    (λ before. inl (omega (arith, before.0), before.1))
    (λ last. inr (ap suc last.0, last.1))
    (one_more xs y k p is)

pub kept_at : (xs ys : List ℕ) (k p : ℕ) → slice_get xs k ≡ Some p → slice_get (xs ++ ys) k ≡ Some p
kept_at [] ys k p is = absurd (let none : ⊥ = cc in none)
kept_at (x ∷ xs) ys zero p is = is
kept_at (x ∷ xs) ys (suc k) p is = kept_at xs ys k p is

pub at_end : (xs : List ℕ) (y : ℕ) → slice_get (xs ++ y ∷ []) (length xs) ≡ Some y
at_end [] y = refl
at_end (x ∷ xs) y = at_end xs y

pub stands_still : (xs ys : List ℕ) (p : ℕ) → StandsIn xs p → StandsIn (xs ++ ys) p
stands_still xs ys p stands = (stands.0, kept_at xs ys stands.0 p stands.1)

first_of : (b : Bool) (x : ℕ) (o : Option ℕ) → cond b (Some x) o ≡ None → (b ≡ false) × (o ≡ None)
first_of true x o none = absurd (let no : ⊥ = cc in no)
first_of false x o none = (refl, none)

-- where none is found none passes
pub none_passes : (test : ℕ → Bool) (xs : List ℕ) → find test xs ≡ None → (k q : ℕ) → slice_get xs k ≡ Some q → test q ≡ false
none_passes test [] none k q is = absurd (let no : ⊥ = cc in no)
none_passes test (x ∷ xs) none zero q is =
    let same : x ≡ q = cc in
    subst (λ (y : ℕ). test y ≡ false) same (first_of (test x) x (find test xs) none).0
none_passes test (x ∷ xs) none (suc k) q is = none_passes test xs (first_of (test x) x (find test xs) none).1 k q is

-- what is found stands there, and passes
pub found_in : (test : ℕ → Bool) (xs : List ℕ) (q : ℕ) → find test xs ≡ Some q → StandsIn xs q × (test q ≡ true)
found_in test [] q is = absurd (let no : ⊥ = cc in no)
found_in test (x ∷ xs) q is = by (test x) refl (found_in test xs q) is
  where
    by : (b : Bool) → test x ≡ b → (find test xs ≡ Some q → StandsIn xs q × (test q ≡ true)) → cond b (Some x) (find test xs) ≡ Some q → StandsIn (x ∷ xs) q × (test q ≡ true)
    by true e further same = let one : x ≡ q = cc in ((zero, ap Some one), subst (λ (y : ℕ). test y ≡ true) one e)
    by false e further same = let rest = further same in ((suc rest.0.0, rest.0.1), rest.1)
