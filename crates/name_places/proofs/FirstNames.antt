-- The first of a list's elements that has a name.
use Rattle.std.proofs.Common.{◌≡◌, ℕ, ◌+◌, ◌<◌, ◌≤◌, Bool, true, false, cond, List, [], ◌∷◌, ◌++◌, Option, Some, None, length, take, get_or, position, slice_get, refl, sym, ap, ◌∙◌, arith}
use Rattle.std.specs.List.{find, list_any, position_or_len, HoldsAt}
use Rattle.std.specs.Option.{is_some, option_or, option_copied, MatchOption}
use denote.Ref.{Bor}
use Rattle.std.proofs.lemmas.List.{take_all, take_more, length-append, length-take}
use Rattle.std.proofs.lemmas.Option.{slice_get_past, slice_get-get_or}
use Rattle.std.proofs.lemmas.List.Folds.{position_or_len_push, find_at}

module _ {X : Type 0} (p : X → Bool) where
  within : (xs : List X) → position_or_len p xs ≤ length xs
  within [] = omega arith
  within (x ∷ xs) = by_test (p x) refl (within xs)
    where
      by_test : (b : Bool) → p x ≡ b → position_or_len p xs ≤ length xs → position_or_len p (x ∷ xs) ≤ length (x ∷ xs)
      by_test true e ih = rw e (omega arith)
      by_test false e ih = rw e (omega arith)

  position_push : (xs : List X) (x : X) → position p (xs ++ x ∷ []) ≡ option_or (position p xs) (cond (p x) (Some (length xs)) None)
  position_push xs x = grind (arith, position_or_len_push p xs x, length-append xs (x ∷ []), within xs)

  -- one element more
  pub position_next : (xs : List X) (i : ℕ) (x : X) (before after : Option ℕ) (here : Bool) → i < length xs → x ≡ get_or xs i x → here ≡ p x
      → before ≡ position p (take i xs) → after ≡ option_or before (cond here (Some i) None) → after ≡ position p (take (i + 1) xs)
  position_next xs i x before after here inside is passes was made =
      let longer : take (i + 1) xs ≡ take i xs ++ x ∷ [] = take_more xs i x inside ∙ ap (λ (y : X). take i xs ++ y ∷ []) (sym is) in
      let long : length (take i xs) ≡ i = omega (arith, length-take {A = X}) in
      let next : position p (take (i + 1) xs) ≡ option_or (position p (take i xs)) (cond (p x) (Some i) None) =
      ap (position p) longer ∙ position_push (take i xs) x ∙ ap (λ (n : ℕ). option_or (position p (take i xs)) (cond (p x) (Some n) None)) long in
      made ∙ ap (λ (o : Option ℕ). option_or o (cond here (Some i) None)) was ∙ ap (λ (b : Bool). option_or (position p (take i xs)) (cond b (Some i) None)) passes ∙ sym next

  -- all of them
  pub position_all : (xs : List X) (i : ℕ) → length xs ≤ i → position p (take i xs) ≡ position p xs
  position_all xs i end = ap (position p) (take_all i xs end)

  -- what is found is what stands at its place
  pub find_at_place : (xs : List X) (at : ℕ) → position p xs ≡ Some at → find p xs ≡ slice_get xs at
  find_at_place xs at is = grind (arith, find_at p xs, is)

  pub find_nowhere : (xs : List X) → position p xs ≡ None → find p xs ≡ None
  find_nowhere xs is = grind (arith, find_at p xs, is, slice_get_past xs (position_or_len p xs))

  -- one stands somewhere where one passes
  pub found_among : (xs : List X) → is_some (position p xs) ≡ list_any p xs
  found_among [] = refl
  found_among (x ∷ xs) = by_test (p x) refl (found_among xs)
    where
      by_test : (b : Bool) → p x ≡ b → is_some (position p xs) ≡ list_any p xs → is_some (position p (x ∷ xs)) ≡ list_any p (x ∷ xs)
      by_test true e ih = rw e (grind arith)
      by_test false e ih = rw e (grind (arith, ih))

-- what a slice's `get` gives
pub given : {X : Type 0} (o : Option (Bor X)) (xs : List X) (k : ℕ) → MatchOption o (length xs ≤ k) (λ x. (k < length xs) × HoldsAt (λ y. x.now ≡ y) xs k) → option_copied o ≡ slice_get xs k
given None xs k past = sym (slice_get_past xs k past)
given {X} (Some x) xs k here = ap (λ (y : X). Some y) (here.1 x.now) ∙ sym (slice_get-get_or xs k x.now here.0)
