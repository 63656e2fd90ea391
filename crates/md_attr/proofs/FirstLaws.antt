-- What is found first in a list, one element more.
use Rattle.std.proofs.Common.{◌≡◌, ℕ, ◌+◌, ◌<◌, Bool, true, false, cond, List, [], ◌∷◌, ◌++◌, Option, Some, None, length, take, get_or, refl, sym, ap, ◌∙◌}
use Rattle.std.specs.List.{find}
use Rattle.std.specs.Option.{option_map, option_and_then, option_or}
use Rattle.std.proofs.lemmas.List.{take_more}
use Rattle.std.proofs.lemmas.List.Folds.{find-append}

module _ {X Y : Type 0} (p : X → Bool) (give : X → Y) where
  given_last : (x : X) (o : Option X) → option_map give (option_or o (find p (x ∷ []))) ≡ option_or (option_map give o) (cond (p x) (Some (give x)) None)
  given_last x (Some y) = refl
  given_last x None = by_test (p x)
    where
      by_test : (b : Bool) → option_map give (cond b (Some x) None) ≡ cond b (Some (give x)) None
      by_test true = refl
      by_test false = refl

  -- what the first gives, with one element more
  pub given_next : (xs : List X) (i : ℕ) (x : X) (before after : Option Y) → i < length xs → x ≡ get_or xs i x → before ≡ option_map give (find p (take i xs))
      → after ≡ option_or before (cond (p x) (Some (give x)) None) → after ≡ option_map give (find p (take (i + 1) xs))
  given_next xs i x before after inside is was made =
      let longer : take (i + 1) xs ≡ take i xs ++ x ∷ [] = take_more xs i x inside ∙ ap (λ (y : X). take i xs ++ y ∷ []) (sym is) in
      made ∙ ap (λ (o : Option Y). option_or o (cond (p x) (Some (give x)) None)) was
      ∙ sym (ap (λ (l : List X). option_map give (find p l)) longer ∙ ap (option_map give) (find-append p (take i xs) (x ∷ [])) ∙ given_last x (find p (take i xs)))

-- nothing more
pub or_none : {Y : Type 0} (o : Option Y) → option_or o None ≡ o
or_none None = refl
or_none (Some y) = refl

-- what is there, of what may give something
pub flattened : {X Y : Type 0} (give : X → Option Y) (o : Option X) → option_and_then (λ (y : Option Y). y) (option_map give o) ≡ option_and_then give o
flattened give None = refl
flattened give (Some x) = refl
