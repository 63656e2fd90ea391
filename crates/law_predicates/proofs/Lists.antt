-- All of some names pass a test, by each of them.
use Rattle.std.proofs.Common.{◌≡◌, Bool, true, List}
use Rattle.std.specs.Prelude.{slice_index_or, Contains}
use Rattle.std.specs.List.{list_all}
use Rattle.std.proofs.lemmas.List.Elements.{All-contains, All-contains_itself}
use Rattle.std.proofs.lemmas.List.Sums.{AllPass-from_list_all, list_all-from_AllPass}

module _ {X : Type 0} (p : X → Bool) (xs : List X) where
  pub each_passes : list_all p xs ≡ true → (x : X) → Contains xs x → p x ≡ true
  each_passes all x has = All-contains (λ y. p y ≡ true) xs x (AllPass-from_list_all p xs all) has

  pub all_pass : ((x : X) → Contains xs x → p x ≡ true) → list_all p xs ≡ true
  all_pass each = list_all-from_AllPass p xs
      (λ k d inside. each (slice_index_or xs k d) (All-contains_itself xs k d inside))
