-- What is found by binary search in a list whose keys increase.
use Rattle.std.proofs.Common.{◌≡◌, ℕ, zero, suc, ◌<◌, ◌≤◌, Bool, true, false, List, [], ◌∷◌, length, map, get_or, Some, None, Result, Ok, Err, MatchResult, cond, refl, sym, ap, ◌∙◌, arith}
use Rattle.std.specs.Prelude.{◌==◌}
use Rattle.std.specs.List.{find, AllPairs}
use Rattle.std.specs.List.Sorted.{IsSearchInRange, IsBinarySearchResult, IsNonDecreasingBy, IsStrictlyIncreasing}
use Rattle.std.specs.Ordering.{nat_cmp, ordering_index}
use Rattle.std.proofs.lemmas.Bool.Decides.{nat_tests}
use Rattle.std.proofs.lemmas.Cmp.{ranked}
use Rattle.std.proofs.lemmas.List.{get_or-map, length-map}
use Rattle.std.proofs.lemmas.List.Kept.{AllPairs-from_increasing}

-- ---- the first that passes

find_at : {X : Type 0} (f : X → Bool) (xs : List X) (i : ℕ) (d : X) → i < length xs → ((j : ℕ) → j < i → f (get_or xs j d) ≡ false) → f (get_or xs i d) ≡ true → find f xs ≡ Some (get_or xs i d)
find_at f [] i d l before at = absurd (omega arith)
find_at f (x ∷ xs) zero d l before at = ap (λ b. cond b (Some x) (find f xs)) at
find_at f (x ∷ xs) (suc i) d l before at =
    ap (λ b. cond b (Some x) (find f xs)) (before 0 (omega arith)) ∙ find_at f xs i d (omega arith) (λ j l. before (suc j) (omega arith)) at

find_nowhere : {X : Type 0} (f : X → Bool) (xs : List X) → ((j : ℕ) (d : X) → j < length xs → f (get_or xs j d) ≡ false) → find f xs ≡ None
find_nowhere f [] all = refl
find_nowhere f (x ∷ xs) all = ap (λ b. cond b (Some x) (find f xs)) (all 0 x (omega arith)) ∙ find_nowhere f xs (λ j d l. all (suc j) d (omega arith))

-- ---- keys that increase

pub keys_rise : {X : Type 0} (key : X → ℕ) (xs : List X) → IsStrictlyIncreasing (map key xs) → AllPairs (λ x y. key x < key y) xs
keys_rise key xs h i j d l w =
    let pair : get_or (map key xs) i (key d) < get_or (map key xs) j (key d) = AllPairs-from_increasing (map key xs) h i j (key d) l (omega (arith, length-map xs key)) in
    omega (arith, get_or-map key xs i d (key d) (omega arith), get_or-map key xs j d (key d) w)

module _ {X : Type 0} (key : X → ℕ) (xs : List X) (up : AllPairs (λ x y. key x < key y) xs) (k : ℕ) where
  comparisons_rise : IsNonDecreasingBy (λ y. ordering_index (nat_cmp (key y) k)) xs
  comparisons_rise i j d le w =
      let rise : key (get_or xs i d) ≤ key (get_or xs j d) = grind (arith, up i j d, λ (same : i ≡ j). ap (λ n. key (get_or xs n d)) same) in
      grind (arith, nat_tests)

  -- a binary search by key finds what stands first with the key
  pub found : (r : Result ℕ ℕ) → IsSearchInRange r (length xs) → IsBinarySearchResult (λ y. nat_cmp (key y) k) xs r →
      MatchResult r (λ i. (d : X) → find (λ y. key y == k) xs ≡ Some (get_or xs i d)) (λ i. find (λ y. key y == k) xs ≡ None)
  found (Ok i) w equal = λ d.
      let at : key (get_or xs i d) ≡ k = ranked _ k _ (sym (equal d)) in
      find_at (λ y. key y == k) xs i d w (λ j l. grind (arith, nat_tests, up j i d l w)) (grind (arith, nat_tests))
  found (Err i) w parted = find_nowhere (λ y. key y == k) xs (λ j d l.
      let parts = parted comparisons_rise in
      grind (arith, nat_tests, λ (b : j < i). ranked (key (get_or xs j d)) k _ (sym (parts.0 j d (omega arith) b)), λ (a : i ≤ j). ranked (key (get_or xs j d)) k _ (sym (parts.1 j d a l))))
