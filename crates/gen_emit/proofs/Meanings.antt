-- What trees mean, by their heads and their parts.
use Rattle.std.proofs.Common.{◌≡◌, ℕ, suc, List, [], ◌∷◌, map, Option, refl, sym, ap, ap₂, subst, ◌∙◌}
use Rattle.std.specs.Prelude.{sum}
use Rattle.std.specs.List.{AllByRecursion}
use Rattle.c_words.specs.declared.head.CondHead.{CondHead}
use Rattle.c_cond.specs.declared.tree.Tree.{Tree, roll-Tree}
use Rattle.c_cond.specs.declared.tree.Tree.TheOpen.{Tree-F}
use Rattle.c_cond.specs.declared.tree.Tree.TheFolds.{fold-roll-Tree, ind-Tree, map-Tree}
use Rattle.c_cond.specs.Tree.{node}
use Rattle.c_eval.specs.declared.facts.Facts.{Facts}
use Rattle.md_recog.specs.Match.{Accepts}
use Rattle.gen_emit.specs.Statements.{Meaning, meaning, meaning_by, meaning_step}
use Rattle.gen_emit.specs.machine.Plans.{size, size_step}

-- ---- induction over trees

abbrev With : (Tree → Type 0) → Type 0
With P = (t : Tree) × P t

all_of : (P : Tree → Type 0) (ys : List (With P)) → AllByRecursion P (map (λ (y : With P). y.0) ys)
all_of P [] = tt
all_of P (y ∷ ys) = (y.1, all_of P ys)

module _ (P : Tree → Type 0) (step : (h : CondHead) (parts : List Tree) → AllByRecursion P parts → P (node h parts)) where
  layer : (y : Tree-F (With P)) → P (roll-Tree (map-Tree (With P) Tree (λ e. e.0) y))
  layer y = step y.head (map (λ (e : With P). e.0) y.parts) (all_of P y.parts)

  pub induction : (t : Tree) → P t
  induction = ind-Tree P (λ x y e. subst (λ (z : Tree-F Tree). P (roll-Tree z)) e (layer y))

-- ---- meanings

pub meaning_node : (f : Facts) (a : Accepts) (h : CondHead) (parts : List Tree) → meaning f a (node h parts) ≡ meaning_by f a h (map (meaning f a) parts)
unfolding meaning
meaning_node f a h parts = fold-roll-Tree Meaning (meaning_step f a) (record { head = h; parts = parts })

abbrev KeepsTree : Facts → Accepts → Tree → Type 0
KeepsTree f a t = (meaning f a t).tree ≡ t

all_keep : (f : Facts) (a : Accepts) (ts : List Tree) → AllByRecursion (KeepsTree f a) ts → map (λ (m : Meaning). m.tree) (map (meaning f a) ts) ≡ ts
all_keep f a [] all = refl
all_keep f a (t ∷ ts) all = ap₂ (λ (x : Tree) (xs : List Tree). x ∷ xs) all.0 (all_keep f a ts all.1)

-- a meaning has the tree of which it is the meaning
pub tree_of_meaning : (f : Facts) (a : Accepts) (t : Tree) → (meaning f a t).tree ≡ t
tree_of_meaning f a = induction (KeepsTree f a) (λ h parts all. ap (λ (m : Meaning). m.tree) (meaning_node f a h parts) ∙ ap (node h) (all_keep f a parts all))

pub size_node : (h : CondHead) (parts : List Tree) → size (node h parts) ≡ suc (sum (map size parts))
unfolding size
size_node h parts = fold-roll-Tree ℕ size_step (record { head = h; parts = parts })
