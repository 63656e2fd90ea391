-- Two lists, element by element.
use Rattle.std.proofs.Common.{◌≡◌, ℕ, suc, ◌+◌, ◌<◌, List, [], ◌∷◌, ◌++◌, take, length, get_or, refl, sym, ap, subst, ◌∙◌}
use Rattle.std.specs.List.{AllZip, AllByRecursion}
use Rattle.std.proofs.lemmas.List.{take_more}

module _ {A B : Type 0} (R : A → B → Type 0) where
  zip_push : (xs : List A) (ys : List B) (x : A) (y : B) → AllZip R xs ys → R x y → AllZip R (xs ++ x ∷ []) (ys ++ y ∷ [])
  zip_push [] [] x y all is = (is, tt)
  zip_push [] (z ∷ ys) x y all is = absurd all
  zip_push (w ∷ xs) [] x y all is = absurd all
  zip_push (w ∷ xs) (z ∷ ys) x y all is = (all.0, zip_push xs ys x y all.1 is)

  pub zip_more : (xs : List A) (ys : List B) (i : ℕ) (x : A) (y : B) → i < length xs → x ≡ get_or xs i x → AllZip R (take i xs) ys → R x y → AllZip R (take (i + 1) xs) (ys ++ y ∷ [])
  zip_more xs ys i x y within is all one =
      let front : take (i + 1) xs ≡ take i xs ++ x ∷ [] = take_more xs i x within ∙ ap (λ (z : A). take i xs ++ z ∷ []) (sym is) in
      subst (λ (l : List A). AllZip R l (ys ++ y ∷ [])) (sym front) (zip_push (take i xs) ys x y all one)

  pub zip_long : (xs : List A) (ys : List B) → AllZip R xs ys → length xs ≡ length ys
  zip_long [] [] all = refl
  zip_long [] (y ∷ ys) all = absurd all
  zip_long (x ∷ xs) [] all = absurd all
  zip_long (x ∷ xs) (y ∷ ys) all = ap suc (zip_long xs ys all.1)

  pub zip_all : (P : B → Type 0) → ((x : A) (y : B) → R x y → P y) → (xs : List A) (ys : List B) → AllZip R xs ys → AllByRecursion P ys
  zip_all P one [] [] all = tt
  zip_all P one [] (y ∷ ys) all = absurd all
  zip_all P one (x ∷ xs) [] all = absurd all
  zip_all P one (x ∷ xs) (y ∷ ys) all = (one x y all.0, zip_all P one xs ys all.1)

  pub zip_one : ((x : A) (y z : B) → R x y → R x z → y ≡ z) → (xs : List A) (ys zs : List B) → AllZip R xs ys → AllZip R xs zs → ys ≡ zs
  zip_one one [] [] [] all other = refl
  zip_one one [] (y ∷ ys) zs all other = absurd all
  zip_one one [] [] (z ∷ zs) all other = absurd other
  zip_one one (x ∷ xs) [] zs all other = absurd all
  zip_one one (x ∷ xs) (y ∷ ys) [] all other = absurd other
  zip_one one (x ∷ xs) (y ∷ ys) (z ∷ zs) all other = ap (λ (w : B). w ∷ ys) (one x y z all.0 other.0) ∙ ap (λ (ws : List B). z ∷ ws) (zip_one one xs ys zs all.1 other.1)
