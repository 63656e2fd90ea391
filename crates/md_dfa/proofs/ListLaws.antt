-- What is found in what some give, one more.
use Rattle.std.proofs.Common.{◌≡◌, ℕ, ◌+◌, ◌<◌, ◌≤◌, List, [], ◌∷◌, ◌++◌, Option, Some, None, length, take, get_or, refl, sym, ap, ◌∙◌}
use Rattle.std.specs.List.{filter_map}
use Rattle.std.proofs.lemmas.List.{append-nil, take_more, take_all}
use Rattle.std.proofs.lemmas.List.Elements.{filter_map-append}

module _ {X Z : Type 0} (find : X → Option Z) where
  more : (xs : List X) (i : ℕ) (x : X) → i < length xs → x ≡ get_or xs i x → filter_map find (take (i + 1) xs) ≡ filter_map find (take i xs) ++ filter_map find (x ∷ [])
  more xs i x within is =
      ap (filter_map find) (take_more xs i x within ∙ ap (λ (y : X). take i xs ++ y ∷ []) (sym is))
      ∙ filter_map-append find (take i xs) (x ∷ [])

  pub found : (xs : List X) (i : ℕ) (x : X) (z : Z) (all : List Z) → i < length xs → x ≡ get_or xs i x → all ≡ filter_map find (take i xs) → find x ≡ Some z → all ++ z ∷ [] ≡ filter_map find (take (i + 1) xs)
  found xs i x z all within is so_far e = rw so_far (sym (more xs i x within is ∙ rw e refl))

  pub passed : (xs : List X) (i : ℕ) (x : X) (all : List Z) → i < length xs → x ≡ get_or xs i x → all ≡ filter_map find (take i xs) → find x ≡ None → all ≡ filter_map find (take (i + 1) xs)
  passed xs i x all within is so_far e = so_far ∙ sym (more xs i x within is ∙ rw e (append-nil (filter_map find (take i xs))))

  pub ended : (xs : List X) (i : ℕ) (all : List Z) → length xs ≤ i → all ≡ filter_map find (take i xs) → all ≡ filter_map find xs
  ended xs i all end so_far = so_far ∙ ap (filter_map find) (take_all i xs end)
