-- Trees that are the same but for their places.
use Rattle.std.proofs.Common.{◌≡◌, ℕ, List, [], ◌∷◌, map, refl, sym, ap, ◌∙◌}
use Rattle.rtx_tree.specs.declared.place.Place.{Place}
use Rattle.lisp_read.specs.declared.tree.Tree.{Tree, out-Tree, out-roll-Tree}
use Rattle.lisp_read.specs.declared.tree.Tree.TheOpen.{Tree-F}
use Rattle.lisp_read.specs.declared.tree.Tree.TheFolds.{fold_out-Tree, map-Tree}
use Rattle.lisp_read.specs.declared.tree.Tree.TheVariants as tree
use Rattle.lisp_read.specs.declared.tree.Tree.TheVariants.{rolls-Atom, rolls-Str, rolls-Block, rolls-List, rolls-Vector}
use Rattle.tree_print.specs.Print.{unplaced, unplaced_step, nowhere}

unfoldable pub Same : Tree → Tree → Type 0
Same t u = unplaced t ≡ unplaced u

abbrev pub AllSame : List Tree → List Tree → Type 0
AllSame [] [] = Unit {0}
AllSame (t ∷ ts) (u ∷ us) = Same t u × AllSame ts us
AllSame _ _ = ⊥

pub same_all : (ts us : List Tree) → map unplaced ts ≡ map unplaced us → AllSame ts us
unfolding Same
same_all [] [] e = tt
same_all (t ∷ ts) (u ∷ us) e =
    let first : unplaced t ≡ unplaced u = cc in
    let rest : map unplaced ts ≡ map unplaced us = cc in
    (first, same_all ts us rest)
same_all [] (u ∷ us) e = absurd (let none : ⊥ = cc in none)
same_all (t ∷ ts) [] e = absurd (let none : ⊥ = cc in none)

-- ---- the outside of a tree

abbrev layer : Tree-F Tree → Tree-F Tree
layer (Tree-F.Atom place text) = Tree-F.Atom nowhere text
layer (Tree-F.Str place text) = Tree-F.Str nowhere text
layer (Tree-F.Block place text) = Tree-F.Block nowhere text
layer (Tree-F.List place items) = Tree-F.List nowhere items
layer (Tree-F.Vector place items) = Tree-F.Vector nowhere items

pub out-Atom : (p : Place) (t : List ℕ) → out-Tree (tree.Atom p t) ≡ Tree-F.Atom p t
out-Atom p t = ap out-Tree (sym (rolls-Atom p t)) ∙ out-roll-Tree (Tree-F.Atom p t)

pub out-Str : (p : Place) (t : List ℕ) → out-Tree (tree.Str p t) ≡ Tree-F.Str p t
out-Str p t = ap out-Tree (sym (rolls-Str p t)) ∙ out-roll-Tree (Tree-F.Str p t)

pub out-Block : (p : Place) (t : List ℕ) → out-Tree (tree.Block p t) ≡ Tree-F.Block p t
out-Block p t = ap out-Tree (sym (rolls-Block p t)) ∙ out-roll-Tree (Tree-F.Block p t)

pub out-List : (p : Place) (ts : List Tree) → out-Tree (tree.List p ts) ≡ Tree-F.List p ts
out-List p ts = ap out-Tree (sym (rolls-List p ts)) ∙ out-roll-Tree (Tree-F.List p ts)

pub out-Vector : (p : Place) (ts : List Tree) → out-Tree (tree.Vector p ts) ≡ Tree-F.Vector p ts
out-Vector p ts = ap out-Tree (sym (rolls-Vector p ts)) ∙ out-roll-Tree (Tree-F.Vector p ts)

abbrev within : Tree-F Tree → Tree-F Tree
within o = layer (map-Tree Tree Tree unplaced o)

step_out : (o : Tree-F Tree) → out-Tree (unplaced_step o) ≡ layer o
step_out (Tree-F.Atom p t) = out-Atom nowhere t
step_out (Tree-F.Str p t) = out-Str nowhere t
step_out (Tree-F.Block p t) = out-Block nowhere t
step_out (Tree-F.List p ts) = out-List nowhere ts
step_out (Tree-F.Vector p ts) = out-Vector nowhere ts

unplaced_out : (t : Tree) → out-Tree (unplaced t) ≡ within (out-Tree t)
unfolding unplaced
unplaced_out t = ap out-Tree (fold_out-Tree Tree unplaced_step t) ∙ step_out (map-Tree Tree Tree unplaced (out-Tree t))

same_out : (t u : Tree) → Same t u → within (out-Tree t) ≡ within (out-Tree u)
unfolding Same
same_out t u e = sym (unplaced_out t) ∙ (ap out-Tree e ∙ unplaced_out u)

-- ---- what a tree is that is the same as one that is known

pub record IsList (t : Tree) (us : List Tree) : Type 0 where
  pub place : Place
  pub items : List Tree
  pub is : out-Tree t ≡ Tree-F.List place items
  pub same : AllSame items us

pub record IsVector (t : Tree) (us : List Tree) : Type 0 where
  pub place : Place
  pub items : List Tree
  pub is : out-Tree t ≡ Tree-F.Vector place items
  pub same : AllSame items us

pub record IsAtomOf (t : Tree) (text : List ℕ) : Type 0 where
  pub place : Place
  pub is : out-Tree t ≡ Tree-F.Atom place text

pub record IsStr (t : Tree) (text : List ℕ) : Type 0 where
  pub place : Place
  pub is : out-Tree t ≡ Tree-F.Str place text

pub as_list : (t : Tree) (p : Place) (us : List Tree) → Same t (tree.List p us) → IsList t us
as_list t p us e = by (out-Tree t) refl (same_out t (tree.List p us) e ∙ ap within (out-List p us))
  where
    by : (o : Tree-F Tree) → out-Tree t ≡ o → within o ≡ Tree-F.List nowhere (map unplaced us) → IsList t us
    by (Tree-F.List q ts) is h = record { place = q; items = ts; is = is; same = same_all ts us (let inner : map unplaced ts ≡ map unplaced us = cc in inner) }
    by _ is h = absurd (let none : ⊥ = cc in none)

pub as_vector : (t : Tree) (p : Place) (us : List Tree) → Same t (tree.Vector p us) → IsVector t us
as_vector t p us e = by (out-Tree t) refl (same_out t (tree.Vector p us) e ∙ ap within (out-Vector p us))
  where
    by : (o : Tree-F Tree) → out-Tree t ≡ o → within o ≡ Tree-F.Vector nowhere (map unplaced us) → IsVector t us
    by (Tree-F.Vector q ts) is h = record { place = q; items = ts; is = is; same = same_all ts us (let inner : map unplaced ts ≡ map unplaced us = cc in inner) }
    by _ is h = absurd (let none : ⊥ = cc in none)

pub as_atom : (t : Tree) (p : Place) (text : List ℕ) → Same t (tree.Atom p text) → IsAtomOf t text
as_atom t p text e = by (out-Tree t) refl (same_out t (tree.Atom p text) e ∙ ap within (out-Atom p text))
  where
    by : (o : Tree-F Tree) → out-Tree t ≡ o → within o ≡ Tree-F.Atom nowhere text → IsAtomOf t text
    by (Tree-F.Atom q w) is h = let same : w ≡ text = cc in record { place = q; is = is ∙ ap (λ (x : List ℕ). Tree-F.Atom q x) same }
    by _ is h = absurd (let none : ⊥ = cc in none)

pub as_string : (t : Tree) (p : Place) (text : List ℕ) → Same t (tree.Str p text) → IsStr t text
as_string t p text e = by (out-Tree t) refl (same_out t (tree.Str p text) e ∙ ap within (out-Str p text))
  where
    by : (o : Tree-F Tree) → out-Tree t ≡ o → within o ≡ Tree-F.Str nowhere text → IsStr t text
    by (Tree-F.Str q w) is h = let same : w ≡ text = cc in record { place = q; is = is ∙ ap (λ (x : List ℕ). Tree-F.Str q x) same }
    by _ is h = absurd (let none : ⊥ = cc in none)
