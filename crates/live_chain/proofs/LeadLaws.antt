-- The first of a list that passes a test, looked for from place to place.
use Rattle.std.proofs.Common.{◌≡◌, ℕ, zero, suc, ◌+◌, Bool, true, false, cond, List, [], ◌∷◌, drop, Some}
use Rattle.std.proofs.Common.{sym, ap, ◌∙◌, arith}
use Rattle.std.specs.Prelude.{slice_get}
use Rattle.std.specs.List.{position_from}
use Rattle.std.proofs.lemmas.Option.{same_Some, slice_get_within}

module _ {X : Type 0} (test : X → Bool) where
  position_at : (xs : List X) (at a : ℕ) (x : X) → slice_get xs at ≡ Some x →
      position_from test a (drop at xs) ≡ cond (test x) (Some a) (position_from test (a + 1) (drop (at + 1) xs))
  position_at [] at a x e = absurd (omega (arith, slice_get_within [] at x e))
  position_at (y ∷ xs) zero a x e =
      ap (λ y. cond (test y) (Some a) (position_from test (a + 1) xs)) (same_Some y x e)
  position_at (y ∷ xs) (suc at) a x e =
      position_at xs at a x e ∙
      ap (λ n. cond (test x) (Some a) (position_from test (a + 1) (drop n (y ∷ xs))))
      {x = suc (at + 1)} {y = suc at + 1} (omega arith)

  -- none before the place passes, and what stands there does
  pub found_at : (xs : List X) (at : ℕ) (x : X) → position_from test 0 xs ≡ position_from test at (drop at xs) →
      slice_get xs at ≡ Some x → test x ≡ true → Some at ≡ position_from test 0 xs
  found_at xs at x before is passes =
      sym (before ∙
      (position_at xs at at x is ∙
      ap (λ t. cond t (Some at) (position_from test (at + 1) (drop (at + 1) xs))) passes))

  -- and what stands there doesn't
  pub passed_at : (xs : List X) (at : ℕ) (x : X) → position_from test 0 xs ≡ position_from test at (drop at xs) →
      slice_get xs at ≡ Some x → test x ≡ false →
      position_from test 0 xs ≡ position_from test (at + 1) (drop (at + 1) xs)
  passed_at xs at x before is fails =
      before ∙
      (position_at xs at at x is ∙
      ap (λ t. cond t (Some at) (position_from test (at + 1) (drop (at + 1) xs))) fails)
