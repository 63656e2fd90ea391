-- Lists with one element written, or one more at their end.
use Rattle.std.proofs.Common.{◌≡◌, ◌≢◌, ℕ, zero, suc, ◌<◌, List, [], ◌∷◌, ◌++◌, length, set, Some, refl, ap, ◌∙◌, arith}
use Rattle.std.specs.Prelude.{slice_get}
use Rattle.std.proofs.lemmas.List.{get_or-set_same, length-set}
use Rattle.std.proofs.lemmas.Option.{slice_get-get_or}

module _ {X : Type 0} where
  pub got_same : (xs : List X) (i : ℕ) (y : X) → i < length xs → slice_get (set xs i y) i ≡ Some y
  got_same xs i y h =
      slice_get-get_or (set xs i y) i y (omega (arith, length-set xs i y)) ∙ ap Some (get_or-set_same xs i y y h)

  pub got_other : (xs : List X) (i j : ℕ) (y : X) → j ≢ i → slice_get (set xs i y) j ≡ slice_get xs j
  got_other [] i j y ne = refl
  got_other (x ∷ xs) zero zero y ne = absurd (ne refl)
  got_other (x ∷ xs) zero (suc j) y ne = refl
  got_other (x ∷ xs) (suc i) zero y ne = refl
  got_other (x ∷ xs) (suc i) (suc j) y ne = got_other xs i j y (λ e. ne (ap suc e))

  pub got_front : (xs ys : List X) (i : ℕ) (x : X) → slice_get xs i ≡ Some x → slice_get (xs ++ ys) i ≡ Some x
  got_front [] ys i x is = absurd (cc)
  got_front (y ∷ xs) ys zero x is = is
  got_front (y ∷ xs) ys (suc i) x is = got_front xs ys i x is

  pub got_last : (xs : List X) (x : X) → slice_get (xs ++ x ∷ []) (length xs) ≡ Some x
  got_last [] x = refl
  got_last (y ∷ xs) x = got_last xs x
