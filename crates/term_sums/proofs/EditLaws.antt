-- What edits of a list leave, as views of their elements.
use Rattle.std.proofs.Common.{◌≡◌, ℕ, zero, suc, refl, ap, List, [], ◌∷◌, map}
use Rattle.std.specs.List.{insert, remove}

module _ {A B : Type 0} (f : A → B) where
  pub map-insert : (xs : List A) (p : ℕ) (x : A) → map f (insert xs p x) ≡ insert (map f xs) p (f x)
  map-insert [] zero x = refl
  map-insert [] (suc p) x = refl
  map-insert (y ∷ xs) zero x = refl
  map-insert (y ∷ xs) (suc p) x = ap (λ ys. f y ∷ ys) (map-insert xs p x)

  pub map-remove : (xs : List A) (p : ℕ) → map f (remove xs p) ≡ remove (map f xs) p
  map-remove [] zero = refl
  map-remove [] (suc p) = refl
  map-remove (y ∷ xs) zero = refl
  map-remove (y ∷ xs) (suc p) = ap (λ ys. f y ∷ ys) (map-remove xs p)
