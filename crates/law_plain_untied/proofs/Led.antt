-- Where no operand has a digit, each leads to itself alone.
use Rattle.std.proofs.Common.{◌≡◌, true, false, List, [], ◌∷◌, refl}
use Rattle.reload_moves.specs.declared.fitting.Standing.{Standing}
use Rattle.reload_moves.specs.declared.fitting.Needs.{Needs}
use Rattle.reload_moves.specs.declared.fitting.Fitting.{Fitting}
use Rattle.reload_moves.specs.Moved.{led_from}
use Rattle.law_plain_untied.proofs.Parts.{stands}

pub one : (s : Standing) (m : Needs) → led_from (stands 0 s m ∷ []) 0 ≡ true ∷ []
one s m = refl

module _ (s t : Standing) (m n : Needs) where
  abbrev pub two_fits : List Fitting
  two_fits = stands 0 s m ∷ stands 1 t n ∷ []

  pub first_of_two : led_from two_fits 0 ≡ true ∷ false ∷ []
  first_of_two = refl

  pub second_of_two : led_from two_fits 1 ≡ false ∷ true ∷ []
  second_of_two = refl

module _ (s t u : Standing) (m n o : Needs) where
  abbrev pub three_fits : List Fitting
  three_fits = stands 0 s m ∷ stands 1 t n ∷ stands 2 u o ∷ []

  pub first_of_three : led_from three_fits 0 ≡ true ∷ false ∷ false ∷ []
  first_of_three = refl

  pub second_of_three : led_from three_fits 1 ≡ false ∷ true ∷ false ∷ []
  second_of_three = refl

  pub third_of_three : led_from three_fits 2 ≡ false ∷ false ∷ true ∷ []
  third_of_three = refl

module _ (s t u v : Standing) (m n o p : Needs) where
  abbrev pub four_fits : List Fitting
  four_fits = stands 0 s m ∷ stands 1 t n ∷ stands 2 u o ∷ stands 3 v p ∷ []

  pub second_of_four : led_from four_fits 1 ≡ false ∷ true ∷ false ∷ false ∷ []
  second_of_four = refl

  pub third_of_four : led_from four_fits 2 ≡ false ∷ false ∷ true ∷ false ∷ []
  third_of_four = refl
