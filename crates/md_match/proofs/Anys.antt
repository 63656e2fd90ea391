-- Whether one of two lists has something.
use Rattle.std.proofs.Common.{◌≡◌, Bool, true, false, ◌||◌, List, [], ◌∷◌, ◌++◌, refl}
use Rattle.std.specs.List.{list_any}

pub any_of_both : {A : Type 0} (f : A → Bool) (xs ys : List A) → list_any f (xs ++ ys) ≡ (list_any f xs || list_any f ys)
any_of_both f [] ys = refl
any_of_both f (x ∷ xs) ys = go (f x) (any_of_both f xs ys)
  where
    go : (b : Bool) → list_any f (xs ++ ys) ≡ (list_any f xs || list_any f ys) → (b || list_any f (xs ++ ys)) ≡ ((b || list_any f xs) || list_any f ys)
    go true e = refl
    go false e = e

pub or_false : (b : Bool) → b ≡ (b || false)
or_false true = refl
or_false false = refl
