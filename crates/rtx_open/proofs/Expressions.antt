-- Expressions that are written out.
use Rattle.std.proofs.Common.{◌≡◌, ℕ, List, [], ◌∷◌, map, refl, ap, ◌∙◌}
use Rattle.std.specs.Prelude.{ℤ}
use Rattle.rtx_tree.specs.declared.code.Code.{Code}
use Rattle.rtx_tree.specs.declared.code.Mode.{Mode}
use Rattle.rtx_tree.specs.declared.tree.Rtx.{Rtx, out-Rtx, roll-Rtx, out-roll-Rtx}
use Rattle.rtx_tree.specs.declared.tree.Rtx.TheOpen.{Rtx-F}
use Rattle.rtx_tree.specs.declared.tree.Rtx.TheFolds.{fold-Rtx, fold-roll-Rtx}

-- an expression that is written out, in which any may stand
mutual
  pub data Written : Type 0 where
    node : Code → Mode → ℤ → List ℕ → WrittenList → Written
    any : Rtx → Written

  pub data WrittenList : Type 0 where
    none : WrittenList
    with : Written → WrittenList → WrittenList

-- the expression that it is
abbrev mutual
  pub rtx : Written → Rtx
  rtx (node c m n s parts) = roll-Rtx (record { code = c; mode = m; number = n; name = s; kids = rtxs parts })
  rtx (any x) = x

  pub rtxs : WrittenList → List Rtx
  rtxs none = []
  rtxs (with x xs) = rtx x ∷ rtxs xs

-- what its expression is outside
abbrev pub outside : Written → Rtx-F Rtx
outside (node c m n s parts) = record { code = c; mode = m; number = n; name = s; kids = rtxs parts }
outside (any x) = out-Rtx x

pub outside_is : (x : Written) → out-Rtx (rtx x) ≡ outside x
outside_is (node c m n s parts) = out-roll-Rtx _
outside_is (any x) = refl

-- ---- what is gathered over an expression

module _ {A : Type 0} (step : Rtx-F A → A) where
  abbrev mutual
    pub gathered : Written → A
    gathered (node c m n s parts) = step (record { code = c; mode = m; number = n; name = s; kids = each_gathered parts })
    gathered (any x) = fold-Rtx A step x

    pub each_gathered : WrittenList → List A
    each_gathered none = []
    each_gathered (with x xs) = gathered x ∷ each_gathered xs

  abbrev over : Code → Mode → ℤ → List ℕ → List A → A
  over c m n s parts = step (record { code = c; mode = m; number = n; name = s; kids = parts })

  mutual
    -- over its expression, and over it as it is written
    pub gathers : (x : Written) → fold-Rtx A step (rtx x) ≡ gathered x
    gathers (node c m n s parts) =
        fold-roll-Rtx A step (record { code = c; mode = m; number = n; name = s; kids = rtxs parts }) ∙ ap (over c m n s) (each_gathers parts)
    gathers (any x) = refl

    each_gathers : (xs : WrittenList) → map (fold-Rtx A step) (rtxs xs) ≡ each_gathered xs
    each_gathers none = refl
    each_gathers (with x xs) =
        ap (λ y. y ∷ map (fold-Rtx A step) (rtxs xs)) (gathers x) ∙ ap (λ ys. gathered x ∷ ys) (each_gathers xs)
