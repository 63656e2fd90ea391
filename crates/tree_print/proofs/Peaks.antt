-- How many lists and vectors are open within the parts of a tree: as many as its depth at most.
use Rattle.std.proofs.Common.{◌≡◌, ◌≤◌, ℕ, suc, ◌+◌, ◌-◌, max, Bool, true, false, cond, List, [], ◌∷◌, ◌++◌, length, map, Option, Some, None, refl, sym, ap, subst, ◌∙◌, append_assoc, arith}
use Rattle.std.specs.List.{AllByRecursion}
use Rattle.std.proofs.lemmas.List.{append-nil}
use Rattle.std.proofs.lemmas.List.Concat.{flat_map-cons}
use Rattle.rtx_tree.specs.declared.place.Place.{Place}
use Rattle.lisp_read.specs.declared.class.Bracket.{Bracket}
use Rattle.lisp_read.specs.declared.class.Bracket.TheVariants.{Round, Square}
use Rattle.lisp_read.specs.declared.tree.Tree.{Tree}
use Rattle.lisp_read.specs.declared.tree.Tree.TheVariants as tree
use Rattle.lisp_read.specs.Part.{Part, Atom, Str, Block, Open, Close, parts_of, parts_of_all}
use Rattle.lisp_read.specs.Nesting.{same_kind, still_open}
use Rattle.tree_print.specs.Print.{depth_of, greatest}
use Rattle.lisp_read.proofs.PartLemmas.{parts_of-Atom, parts_of-Str, parts_of-Block}
use Rattle.tree_print.proofs.Nested.{parts_of_nested}
use Rattle.lisp_read.proofs.Decodes.{nested}
use Rattle.lisp_read.proofs.TreeInduction.{Steps, each, induction}
use Rattle.tree_print.proofs.Printed.{depth-nested}

-- ---- what a tree opens it closes

Balanced : Tree → Type 0
Balanced t = (w : List Bracket) (more : List Part) → still_open w (parts_of t ++ more) ≡ still_open w more

all_balanced : (ts : List Tree) → AllByRecursion Balanced ts → (w : List Bracket) (more : List Part) → still_open w (parts_of_all ts ++ more) ≡ still_open w more
unfolding Balanced
all_balanced [] h w more = refl
all_balanced (t ∷ ts) h w more =
    ap (λ (ps : List Part). still_open w (ps ++ more)) (flat_map-cons parts_of t ts)
    ∙ ap (still_open w) (append_assoc (parts_of t) (parts_of_all ts) more)
    ∙ h.0 w (parts_of_all ts ++ more)
    ∙ all_balanced ts h.1 w more

same_again : (k : Bracket) → same_kind k k ≡ true
same_again Round = refl
same_again Square = refl

nested_balanced : (k : Bracket) (p : Place) (ts : List Tree) → AllByRecursion Balanced ts → Balanced (nested k p ts)
unfolding Balanced
nested_balanced k p ts h w more =
    ap (λ (ps : List Part). still_open w (ps ++ more)) (parts_of_nested k p ts)
    ∙ ap (still_open (k ∷ w)) (append_assoc (parts_of_all ts) (Close k ∷ []) more)
    ∙ all_balanced ts h (k ∷ w) (Close k ∷ more)
    ∙ ap (λ (b : Bool). cond b (still_open w more) None) (same_again k)

balances : Steps Balanced
unfolding Balanced
balances = record {
  atom = λ p t w more. ap (λ (ps : List Part). still_open w (ps ++ more)) (parts_of-Atom p t);
  string = λ p t w more. ap (λ (ps : List Part). still_open w (ps ++ more)) (parts_of-Str p t);
  block = λ p t w more. ap (λ (ps : List Part). still_open w (ps ++ more)) (parts_of-Block p t);
  list = λ p ts h. nested_balanced Round p ts h;
  vector = λ p ts h. nested_balanced Square p ts h;
}

pub balanced : (t : Tree) (w : List Bracket) (more : List Part) → still_open w (parts_of t ++ more) ≡ still_open w more
unfolding Balanced
balanced t = induction Balanced balances t

-- and so do trees
pub trees_balanced : (ts : List Tree) (w : List Bracket) (more : List Part) → still_open w (parts_of_all ts ++ more) ≡ still_open w more
trees_balanced ts = all_balanced ts (each Balanced balances ts)

-- ---- how many the parts close that they do not open

abbrev pub closings : List Part → ℕ
closings [] = 0
closings (Open k p ∷ ps) = closings ps - 1
closings (Close k ∷ ps) = closings ps + 1
closings (Atom p t ∷ ps) = closings ps
closings (Str p t ∷ ps) = closings ps
closings (Block p t ∷ ps) = closings ps

-- so many are open where the parts close all of them
pub open_is_closed : (w : List Bracket) (ps : List Part) → still_open w ps ≡ Some [] → length w ≡ closings ps
open_is_closed [] [] h = refl
open_is_closed (k ∷ w) [] h = cc
open_is_closed w (Open k p ∷ ps) h = let e : length (k ∷ w) ≡ closings ps = open_is_closed (k ∷ w) ps h in omega arith
open_is_closed [] (Close k ∷ ps) h = cc
open_is_closed (j ∷ w) (Close k ∷ ps) h = by_test (same_kind j k) h (λ e. open_is_closed w ps e)
  where
    by_test : (b : Bool) → cond b (still_open w ps) None ≡ Some [] → (still_open w ps ≡ Some [] → length w ≡ closings ps) → length (j ∷ w) ≡ closings ps + 1
    by_test true h more = let e : length w ≡ closings ps = more h in omega arith
    by_test false h more = cc
open_is_closed [] (Atom p t ∷ ps) h = open_is_closed [] ps h
open_is_closed (k ∷ w) (Atom p t ∷ ps) h = open_is_closed (k ∷ w) ps h
open_is_closed [] (Str p t ∷ ps) h = open_is_closed [] ps h
open_is_closed (k ∷ w) (Str p t ∷ ps) h = open_is_closed (k ∷ w) ps h
open_is_closed [] (Block p t ∷ ps) h = open_is_closed [] ps h
open_is_closed (k ∷ w) (Block p t ∷ ps) h = open_is_closed (k ∷ w) ps h

-- from each place on the parts close no more than so many
abbrev pub Below : ℕ → List Part → Type 0
Below most [] = Unit {0}
Below most (x ∷ ps) = (closings (x ∷ ps) ≤ most) × Below most ps

pub below_suffix : (most : ℕ) (front back : List Part) → Below most (front ++ back) → closings back ≤ most
below_suffix most [] [] h = omega arith
below_suffix most [] (x ∷ ps) h = h.0
below_suffix most (x ∷ front) back h = below_suffix most front back h.1

abbrev Peaks : List Part → ℕ → Type 0
Peaks ps depth = (most : ℕ) (more : List Part) → closings more + depth ≤ most → Below most more → (closings (ps ++ more) ≡ closings more) × Below most (ps ++ more)

PeaksTree : Tree → Type 0
PeaksTree t = Peaks (parts_of t) (depth_of t)

all_peaks : (ts : List Tree) → AllByRecursion PeaksTree ts → Peaks (parts_of_all ts) (greatest (map depth_of ts))
unfolding PeaksTree
all_peaks [] h most more le below = (refl, below)
all_peaks (t ∷ ts) h most more le below =
    let rest : (closings (parts_of_all ts ++ more) ≡ closings more) × Below most (parts_of_all ts ++ more) = all_peaks ts h.1 most more (fits_right (closings more) (depth_of t) (greatest (map depth_of ts)) most le) below in
    let first : (closings (parts_of t ++ (parts_of_all ts ++ more)) ≡ closings (parts_of_all ts ++ more)) × Below most (parts_of t ++ (parts_of_all ts ++ more)) =
    h.0 most (parts_of_all ts ++ more) (subst (λ (n : ℕ). n + depth_of t ≤ most) (sym rest.0) (fits_left (closings more) (depth_of t) (greatest (map depth_of ts)) most le)) rest.1 in
    let same : parts_of t ++ (parts_of_all ts ++ more) ≡ parts_of_all (t ∷ ts) ++ more =
    sym (ap (λ (ps : List Part). ps ++ more) (flat_map-cons parts_of t ts) ∙ append_assoc (parts_of t) (parts_of_all ts) more) in
    subst (λ (ps : List Part). (closings ps ≡ closings more) × Below most ps) same (first.0 ∙ rest.0, first.1)
  where
    fits_left : (c a b most : ℕ) → c + max a b ≤ most → c + a ≤ most
    fits_left c a b most h = grind (arith)

    fits_right : (c a b most : ℕ) → c + max a b ≤ most → c + b ≤ most
    fits_right c a b most h = grind (arith)

nested_peaks : (k : Bracket) (p : Place) (ts : List Tree) → AllByRecursion PeaksTree ts → PeaksTree (nested k p ts)
unfolding PeaksTree
nested_peaks k p ts h most more le below =
    let depth : depth_of (nested k p ts) ≡ suc (greatest (map depth_of ts)) = depth-nested k p ts in
    let within : closings more + (greatest (map depth_of ts) + 1) ≤ most = omega (arith, le, depth) in
    let inner : (closings (parts_of_all ts ++ Close k ∷ more) ≡ closings more + 1) × Below most (parts_of_all ts ++ Close k ∷ more) =
    all_peaks ts h most (Close k ∷ more) (omega (arith, within)) (omega (arith, within), below) in
    let all : (closings (Open k p ∷ (parts_of_all ts ++ Close k ∷ more)) ≡ closings more) × Below most (Open k p ∷ (parts_of_all ts ++ Close k ∷ more)) =
    (omega (arith, inner.0), (omega (arith, inner.0, within), inner.1)) in
    let same : Open k p ∷ (parts_of_all ts ++ Close k ∷ more) ≡ parts_of (nested k p ts) ++ more =
    sym (ap (λ (ps : List Part). ps ++ more) (parts_of_nested k p ts) ∙ ap (λ (ps : List Part). Open k p ∷ ps) (append_assoc (parts_of_all ts) (Close k ∷ []) more)) in
    subst (λ (ps : List Part). (closings ps ≡ closings more) × Below most ps) same all

one_peaks : (t : Tree) (x : Part) → parts_of t ≡ x ∷ [] → ((more : List Part) → closings (x ∷ more) ≡ closings more) → PeaksTree t
unfolding PeaksTree
one_peaks t x e same most more le below =
    let c : closings (x ∷ more) ≡ closings more = same more in
    subst (λ (ps : List Part). (closings (ps ++ more) ≡ closings more) × Below most (ps ++ more)) (sym e) (c, (omega (arith, c, le), below))

peaks : Steps PeaksTree
peaks = record {
  atom = λ p t. one_peaks (tree.Atom p t) (Atom p t) (parts_of-Atom p t) (λ more. refl);
  string = λ p t. one_peaks (tree.Str p t) (Str p t) (parts_of-Str p t) (λ more. refl);
  block = λ p t. one_peaks (tree.Block p t) (Block p t) (parts_of-Block p t) (λ more. refl);
  list = λ p ts h. nested_peaks Round p ts h;
  vector = λ p ts h. nested_peaks Square p ts h;
}

-- the parts of a tree close nowhere more than its depth
pub below_depth : (t : Tree) (most : ℕ) → depth_of t ≤ most → Below most (parts_of t ++ [])
unfolding PeaksTree
below_depth t most le = (induction PeaksTree peaks t most [] (omega (arith, le)) tt).1

-- the parts of trees close nowhere more than the deepest is deep
pub all_below : (ts : List Tree) (most : ℕ) → greatest (map depth_of ts) ≤ most → Below most (parts_of_all ts)
all_below ts most le = subst (Below most) (append-nil (parts_of_all ts)) (all_peaks ts (each PeaksTree peaks ts) most [] (omega (arith, le)) tt).1
