-- Induction over trees: what holds of each atom, string and block, and of each list and vector of whose trees it holds,
-- holds of every tree.
use Rattle.std.proofs.Common.{ℕ, List, [], ◌∷◌, map, sym, subst}
use Rattle.std.specs.List.{AllByRecursion}
use Rattle.rtx_tree.specs.declared.place.Place.{Place}
use Rattle.lisp_read.specs.declared.tree.Tree.{Tree, roll-Tree}
use Rattle.lisp_read.specs.declared.tree.Tree.TheFolds.{ind-Tree, map-Tree}
use Rattle.lisp_read.specs.declared.tree.Tree.TheOpen.{Tree-F}
use Rattle.lisp_read.specs.declared.tree.Tree.TheVariants as tree
use Rattle.lisp_read.specs.declared.tree.Tree.TheVariants.{rolls-Atom, rolls-Str, rolls-Block, rolls-List, rolls-Vector}

pub record Steps (P : Tree → Type 0) : Type 0 where
  pub atom : (p : Place) (t : List ℕ) → P (tree.Atom p t)
  pub string : (p : Place) (t : List ℕ) → P (tree.Str p t)
  pub block : (p : Place) (t : List ℕ) → P (tree.Block p t)
  pub list : (p : Place) (ts : List Tree) → AllByRecursion P ts → P (tree.List p ts)
  pub vector : (p : Place) (ts : List Tree) → AllByRecursion P ts → P (tree.Vector p ts)

abbrev With : (Tree → Type 0) → Type 0
With P = (t : Tree) × P t

all_of : (P : Tree → Type 0) (ys : List (With P)) → AllByRecursion P (map (λ (y : With P). y.0) ys)
all_of P [] = tt
all_of P (y ∷ ys) = (y.1, all_of P ys)

module _ (P : Tree → Type 0) (steps : Steps P) where
  layer : (y : Tree-F (With P)) → P (roll-Tree (map-Tree (With P) Tree (λ e. e.0) y))
  layer (Tree-F.Atom p t) = subst P (sym (rolls-Atom p t)) (steps.atom p t)
  layer (Tree-F.Str p t) = subst P (sym (rolls-Str p t)) (steps.string p t)
  layer (Tree-F.Block p t) = subst P (sym (rolls-Block p t)) (steps.block p t)
  layer (Tree-F.List p ys) = subst P (sym (rolls-List p (map (λ (y : With P). y.0) ys))) (steps.list p (map (λ (y : With P). y.0) ys) (all_of P ys))
  layer (Tree-F.Vector p ys) = subst P (sym (rolls-Vector p (map (λ (y : With P). y.0) ys))) (steps.vector p (map (λ (y : With P). y.0) ys) (all_of P ys))

  pub induction : (t : Tree) → P t
  induction = ind-Tree P (λ x y e. subst (λ (z : Tree-F Tree). P (roll-Tree z)) e (layer y))

  -- what holds of each tree holds of each of a list
  pub each : (ts : List Tree) → AllByRecursion P ts
  each [] = tt
  each (t ∷ ts) = (induction t, each ts)
