-- What is made of things and of their places, one after the other.
use Rattle.std.proofs.Common.{◌≡◌, ℕ, ◌+◌, ◌<◌, ◌≤◌, List, [], ◌∷◌, ◌++◌, Option, Some, None, map, length, drop, get_or, refl, sym, ap, ◌∙◌, append_assoc}
use Rattle.std.specs.List.{enumerate_from, filter_map}
use Rattle.std.proofs.lemmas.List.{append-nil, at_drop_more, at_drop_all}

-- what comes from a place on
from_here : {X A : Type 0} (f : List (ℕ × X) → List A) (xs : List X) (i : ℕ) (x : X) (out whole : List A) → i < length xs → x ≡ get_or xs i x →
    out ++ f (enumerate_from i (drop i xs)) ≡ whole → out ++ f ((i, x) ∷ enumerate_from (i + 1) (drop (i + 1) xs)) ≡ whole
from_here {X = X} f xs i x out whole within is h =
    sym (at_drop_more (λ (ys : List X). out ++ f (enumerate_from i ys)) xs i x within ∙ ap (λ (y : X). out ++ f ((i, y) ∷ enumerate_from (i + 1) (drop (i + 1) xs))) (sym is)) ∙ h

pub mapped_next : {X A : Type 0} (f : ℕ × X → A) (xs : List X) (i : ℕ) (x : X) (out more whole : List A) → i < length xs → x ≡ get_or xs i x → more ≡ out ++ f (i, x) ∷ [] →
    out ++ map f (enumerate_from i (drop i xs)) ≡ whole → more ++ map f (enumerate_from (i + 1) (drop (i + 1) xs)) ≡ whole
mapped_next f xs i x out more whole within is made h =
    rw made (append_assoc out (f (i, x) ∷ []) (map f (enumerate_from (i + 1) (drop (i + 1) xs))) ∙ from_here (map f) xs i x out whole within is h)

pub mapped_all : {X A : Type 0} (f : ℕ × X → A) (xs : List X) (i : ℕ) (out whole : List A) → length xs ≤ i → out ++ map f (enumerate_from i (drop i xs)) ≡ whole → out ≡ whole
mapped_all {X = X} f xs i out whole end h = sym (append-nil out) ∙ sym (at_drop_all (λ (ys : List X). out ++ map f (enumerate_from i ys)) xs i end) ∙ h

module _ {X A : Type 0} (look : ℕ × X → Option A) (xs : List X) (i : ℕ) (x : X) (out whole : List A) (within : i < length xs) (is : x ≡ get_or xs i x) (so_far : out ++ filter_map look (enumerate_from i (drop i xs)) ≡ whole) where
  -- something was found
  pub found_next : (y : A) (more : List A) → look (i, x) ≡ Some y → more ≡ out ++ y ∷ [] → more ++ filter_map look (enumerate_from (i + 1) (drop (i + 1) xs)) ≡ whole
  found_next y more found made =
      rw made (append_assoc out (y ∷ []) (filter_map look (enumerate_from (i + 1) (drop (i + 1) xs))) ∙ (sym (rw found refl) ∙ from_here (filter_map look) xs i x out whole within is so_far))

  -- or nothing
  pub found_none : look (i, x) ≡ None → out ++ filter_map look (enumerate_from (i + 1) (drop (i + 1) xs)) ≡ whole
  found_none none = sym (rw none refl) ∙ from_here (filter_map look) xs i x out whole within is so_far

pub found_all : {X A : Type 0} (look : ℕ × X → Option A) (xs : List X) (i : ℕ) (out whole : List A) → length xs ≤ i → out ++ filter_map look (enumerate_from i (drop i xs)) ≡ whole → out ≡ whole
found_all {X = X} look xs i out whole end h = sym (append-nil out) ∙ sym (at_drop_all (λ (ys : List X). out ++ filter_map look (enumerate_from i ys)) xs i end) ∙ h
