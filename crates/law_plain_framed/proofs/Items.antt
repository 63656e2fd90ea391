-- What holds of each of some items.
use Rattle.std.proofs.Common.{Bool, true, false, List, [], ◌∷◌, ◌++◌}
use Rattle.std.specs.Prelude.{if◌then◌else◌}
use Rattle.std.specs.List.{AllByRecursion, flat_map}

module _ {A : Type 0} (P : A → Type 0) where
  pub joined : (xs ys : List A) → AllByRecursion P xs → AllByRecursion P ys → AllByRecursion P (xs ++ ys)
  joined [] ys each more = more
  joined (x ∷ xs) ys each more = (each.0, joined xs ys each.1 more)

  -- one that stands between others
  pub between : (xs ys : List A) (x : A) → AllByRecursion P (xs ++ x ∷ ys) → P x
  between [] ys x each = each.0
  between (y ∷ xs) ys x each = between xs ys x each.1

  -- of the items of one list or another
  pub either : (b : Bool) (xs ys : List A) → AllByRecursion P xs → AllByRecursion P ys → AllByRecursion P (if b then xs else ys)
  either true xs ys each more = each
  either false xs ys each more = more

-- of the items that are made of each
pub flat : {A B : Type 0} (P : B → Type 0) (Q : A → Type 0) (f : A → List B) → ((x : A) → Q x → AllByRecursion P (f x)) → (xs : List A) → AllByRecursion Q xs → AllByRecursion P (flat_map f xs)
flat P Q f each [] all = tt
flat P Q f each (x ∷ xs) all = joined P (f x) (flat_map f xs) (each x all.0) (flat P Q f each xs all.1)

-- what follows of each
pub weakened : {A : Type 0} (P Q : A → Type 0) → ((x : A) → P x → Q x) → (xs : List A) → AllByRecursion P xs → AllByRecursion Q xs
weakened P Q step [] all = tt
weakened P Q step (x ∷ xs) all = (step x all.0, weakened P Q step xs all.1)
