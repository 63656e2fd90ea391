-- Reading some things one after the other, all of which have to be read: what is read so far, and what the rest gives.
use Rattle.std.proofs.Common.{◌≡◌, ℕ, ◌+◌, ◌<◌, ◌≤◌, List, [], ◌∷◌, ◌++◌, Option, Some, None, option_map, length, drop, get_or, refl, sym, ap, ◌∙◌, append_assoc}
use Rattle.std.proofs.lemmas.List.{append-nil, at_drop_more, at_drop_all}
use Rattle.md_text.specs.Lists.{each}

-- what is read with these in front
abbrev pub with_front : {A : Type 0} → List A → Option (List A) → Option (List A)
with_front front (Some xs) = Some (front ++ xs)
with_front front None = None

pub with_front-cons : {A : Type 0} (front : List A) (x : A) (p : Option (List A)) → with_front front (option_map (λ xs. x ∷ xs) p) ≡ with_front (front ++ x ∷ []) p
with_front-cons {A = A} front x (Some xs) = ap (λ (ys : List A). Some ys) (sym (append_assoc front (x ∷ []) xs))
with_front-cons front x None = refl

pub with_nothing : {A : Type 0} (p : Option (List A)) → with_front [] p ≡ p
with_nothing (Some xs) = refl
with_nothing None = refl

module _ {A B : Type 0} (read : A → Option B) (front : List B) (xs : List A) (i : ℕ) (x : A) (whole : Option (List B)) (within : i < length xs) (is : x ≡ get_or xs i x) (so_far : with_front front (each read (drop i xs)) ≡ whole) where
  here : with_front front (each read (x ∷ drop (i + 1) xs)) ≡ whole
  here = sym (at_drop_more (λ ys. with_front front (each read ys)) xs i x within ∙ ap (λ (y : A). with_front front (each read (y ∷ drop (i + 1) xs))) (sym is)) ∙ so_far

  -- one more was read
  pub each_next : (y : B) → read x ≡ Some y → with_front (front ++ y ∷ []) (each read (drop (i + 1) xs)) ≡ whole
  each_next y e = sym (with_front-cons front y (each read (drop (i + 1) xs))) ∙ sym (rw e refl) ∙ here

  -- one stands for nothing
  pub each_stops : read x ≡ None → whole ≡ None
  each_stops e = sym here ∙ rw e refl

-- all were read
pub each_ends : {A B : Type 0} (read : A → Option B) (front : List B) (xs : List A) (i : ℕ) (whole : Option (List B)) → length xs ≤ i → with_front front (each read (drop i xs)) ≡ whole → whole ≡ Some front
each_ends {B = B} read front xs i whole end so_far =
    sym so_far ∙ at_drop_all (λ ys. with_front front (each read ys)) xs i end ∙ ap (λ (ys : List B). Some ys) (append-nil front)
