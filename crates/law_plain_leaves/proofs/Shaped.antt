-- Trees by their outsides, and what it says of a tree that it has the parts of its code.
use Rattle.std.proofs.Common.{◌≡◌, ℕ, Bool, true, false, ◌&&◌, List, [], ◌∷◌, ◌++◌, refl, sym, ap, ◌∙◌}
use Rattle.std.specs.Prelude.{ℤ}
use Rattle.std.specs.List.{list_all, flat_map}
use Rattle.rtx_tree.specs.declared.code.Code.{Code}
use Rattle.rtx_tree.specs.declared.code.Mode.{Mode}
use Rattle.rtx_tree.specs.declared.class.Class.{Class}
use Rattle.rtx_tree.specs.declared.tree.Rtx.{Rtx, out-Rtx, roll-Rtx, out-roll-Rtx}
use Rattle.rtx_tree.specs.declared.tree.Rtx.TheFolds.{ind-Rtx}
use Rattle.rtx_tree.specs.Code.{class_of_code}
use Rattle.rtx_tree.specs.Tree.{kids_of}
use Rattle.rtl_func.specs.Nodes.{nodes_of}
use Rattle.rtl_func.specs.Shapes.{number_at, is_shaped, is_bare, fits_row}
use Rattle.law_plain_leaves.specs.Machine.{Throughout}
use Rattle.rtl_func.proofs.NodeLaws.{nodes_out}

-- ---- a tree is its outside

rolled : (x : Rtx) → roll-Rtx (out-Rtx x) ≡ x
rolled = ind-Rtx (λ x. roll-Rtx (out-Rtx x) ≡ x) (λ x y is. ap roll-Rtx (out-roll-Rtx x))

-- what a tree has outside
pub record IsOutside (x : Rtx) (c : Code) (m : Mode) (z : ℤ) (s : List ℕ) (kids : List Rtx) : Type 0 where
  pub code : (out-Rtx x).code ≡ c
  pub mode : (out-Rtx x).mode ≡ m
  pub number : (out-Rtx x).number ≡ z
  pub name : (out-Rtx x).name ≡ s
  pub kids_are : (out-Rtx x).kids ≡ kids

abbrev made_of : Code → Mode → ℤ → List ℕ → List Rtx → Rtx
made_of c m z s kids = roll-Rtx (record { code = c; mode = m; number = z; name = s; kids = kids })

pub tree_is : (x : Rtx) (c : Code) (m : Mode) (z : ℤ) (s : List ℕ) (kids : List Rtx) → IsOutside x c m z s kids → x ≡ roll-Rtx (record { code = c; mode = m; number = z; name = s; kids = kids })
tree_is x c m z s kids o =
    let out = out-Rtx x in
    sym (rolled x) ∙ (ap (λ c. made_of c out.mode out.number out.name out.kids) o.code ∙ (ap (λ m. made_of c m out.number out.name out.kids) o.mode ∙
    (ap (λ z. made_of c m z out.name out.kids) o.number ∙ (ap (λ s. made_of c m z s out.kids) o.name ∙ ap (λ kids. made_of c m z s kids) o.kids_are))))

-- ---- two tests

pub two_of : (p q : Bool) → (p && q) ≡ true → (p ≡ true) × (q ≡ true)
two_of true true is = (refl, refl)
two_of true false is = cc
two_of false q is = cc

-- ---- what holds of all trees within

module _ (p : Rtx → Bool) where
  -- of each of some trees
  abbrev pub Each : List Rtx → Type 0
  Each [] = Unit {0}
  Each (x ∷ xs) = Throughout p x × Each xs

  behind : (xs ys : List Rtx) → list_all p (xs ++ ys) ≡ true → (list_all p xs ≡ true) × (list_all p ys ≡ true)
  behind [] ys all = (refl, all)
  behind (x ∷ xs) ys all =
      let two = two_of (p x) (list_all p (xs ++ ys)) all in
      let rest = behind xs ys two.1 in
      (ap (λ b. b && list_all p xs) two.0 ∙ rest.0, rest.1)

  each_of : (xs : List Rtx) → list_all p (flat_map nodes_of xs) ≡ true → Each xs
  each_of [] all = tt
  each_of (x ∷ xs) all = let two = behind (nodes_of x) (flat_map nodes_of xs) all in (two.0, each_of xs two.1)

  parted : (x : Rtx) → Throughout p x → (p x ≡ true) × (list_all p (flat_map nodes_of (kids_of x)) ≡ true)
  parted x all = two_of (p x) (list_all p (flat_map nodes_of (kids_of x))) (ap (list_all p) (sym (nodes_out x)) ∙ all)

  pub itself : (x : Rtx) → Throughout p x → p x ≡ true
  itself x all = (parted x all).0

  pub parts : (x : Rtx) → Throughout p x → Each (kids_of x)
  parts x all = each_of (kids_of x) (parted x all).1

-- ---- a shaped tree of a code

-- what is asked of its name and number, and of its mode and parts
pub record FitsRow (x : Rtx) (row : Class) : Type 0 where
  pub bare : is_bare row (number_at x) (out-Rtx x).name ≡ true
  pub fits : fits_row row (out-Rtx x).mode (number_at x) (out-Rtx x).kids ≡ true

pub row_is : (x : Rtx) (c : Code) → (out-Rtx x).code ≡ c → is_shaped x ≡ true → FitsRow x (class_of_code c)
row_is x c code shaped =
    let o = out-Rtx x in
    let here = ap (λ c. is_bare (class_of_code c) (number_at x) o.name && fits_row (class_of_code c) o.mode (number_at x) o.kids) (sym code) ∙ shaped in
    let two = two_of (is_bare (class_of_code c) (number_at x) o.name) (fits_row (class_of_code c) o.mode (number_at x) o.kids) here in
    record { bare = two.0; fits = two.1 }
