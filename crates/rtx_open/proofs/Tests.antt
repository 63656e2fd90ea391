-- Tests that are written out.
use Rattle.std.proofs.Common.{◌≡◌, List, [], ◌∷◌, map, refl, ap, ◌∙◌}
use Rattle.pred_expr.specs.declared.question.Question.{Question}
use Rattle.pred_expr.specs.declared.question.Test.{Test, roll-Test}
use Rattle.pred_expr.specs.declared.question.Test.TheOpen.{Test-F}
use Rattle.pred_expr.specs.declared.question.Test.TheFolds.{fold-Test, fold-roll-Test}

-- a test that is written out, in which any may stand
mutual
  pub data Written : Type 0 where
    node : Question → WrittenList → Written
    any : Test → Written

  pub data WrittenList : Type 0 where
    none : WrittenList
    with : Written → WrittenList → WrittenList

-- the test that it is
abbrev mutual
  pub test : Written → Test
  test (node q parts) = roll-Test (record { question = q; parts = tests parts })
  test (any x) = x

  pub tests : WrittenList → List Test
  tests none = []
  tests (with x xs) = test x ∷ tests xs

-- ---- what is gathered over a test

module _ {A : Type 0} (step : Test-F A → A) where
  abbrev mutual
    pub gathered : Written → A
    gathered (node q parts) = step (record { question = q; parts = each_gathered parts })
    gathered (any x) = fold-Test A step x

    pub each_gathered : WrittenList → List A
    each_gathered none = []
    each_gathered (with x xs) = gathered x ∷ each_gathered xs

  abbrev over : Question → List A → A
  over q parts = step (record { question = q; parts = parts })

  mutual
    -- over its test, and over it as it is written
    pub gathers : (x : Written) → fold-Test A step (test x) ≡ gathered x
    gathers (node q parts) = fold-roll-Test A step (record { question = q; parts = tests parts }) ∙ ap (over q) (each_gathers parts)
    gathers (any x) = refl

    each_gathers : (xs : WrittenList) → map (fold-Test A step) (tests xs) ≡ each_gathered xs
    each_gathers none = refl
    each_gathers (with x xs) =
        ap (λ y. y ∷ map (fold-Test A step) (tests xs)) (gathers x) ∙ ap (λ ys. gathered x ∷ ys) (each_gathers xs)
