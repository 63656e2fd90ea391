-- Conditions and statements that are written out.
use Rattle.std.proofs.Common.{◌≡◌, List, [], ◌∷◌, map, refl, ap, ◌∙◌}
use Rattle.c_cond.specs.c_words.declared.head.CondHead.{CondHead}
use Rattle.c_cond.specs.declared.tree.Tree.{Tree}
use Rattle.c_cond.specs.declared.tree.Tree.TheOpen.{Tree-F}
use Rattle.c_cond.specs.declared.tree.Tree.TheFolds.{fold-Tree, fold-roll-Tree}
use Rattle.c_cond.specs.Tree as tree
use Rattle.c_eval.specs.declared.reading.Reading.{Reading}
use Rattle.c_eval.specs.Fold.{fold_by, fold_step}

-- a condition that is written out, in which any may stand
mutual
  pub data Written : Type 0 where
    node : CondHead → WrittenList → Written
    any : Tree → Written

  pub data WrittenList : Type 0 where
    none : WrittenList
    with : Written → WrittenList → WrittenList

-- the condition that it is
abbrev mutual
  pub condition : Written → Tree
  condition (node h parts) = tree.node h (conditions parts)
  condition (any x) = x

  pub conditions : WrittenList → List Tree
  conditions none = []
  conditions (with x xs) = condition x ∷ conditions xs

-- ---- what is gathered over a condition

module _ {A : Type 0} (step : Tree-F A → A) where
  abbrev mutual
    pub gathered : Written → A
    gathered (node h parts) = step (record { head = h; parts = each_gathered parts })
    gathered (any x) = fold-Tree A step x

    pub each_gathered : WrittenList → List A
    each_gathered none = []
    each_gathered (with x xs) = gathered x ∷ each_gathered xs

  abbrev over : CondHead → List A → A
  over h parts = step (record { head = h; parts = parts })

  mutual
    -- over its condition, and over it as it is written
    pub gathers : (x : Written) → fold-Tree A step (condition x) ≡ gathered x
    gathers (node h parts) = fold-roll-Tree A step (record { head = h; parts = conditions parts }) ∙ ap (over h) (each_gathers parts)
    gathers (any x) = refl

    each_gathers : (xs : WrittenList) → map (fold-Tree A step) (conditions xs) ≡ each_gathered xs
    each_gathers none = refl
    each_gathers (with x xs) =
        ap (λ y. y ∷ map (fold-Tree A step) (conditions xs)) (gathers x) ∙ ap (λ ys. gathered x ∷ ys) (each_gathers xs)

-- what a condition is read as, where its parts are written out
pub reads : (read : CondHead → List Reading → Reading) (x : Written) → fold_by read (condition x) ≡ gathered (fold_step read) x
reads read x = gathers (fold_step read) x
