-- Trees whose numbers and names can be printed, and whose registers have modes.
use Rattle.std.proofs.Common.{◌≡◌, ℕ, pos, Bool, true, false, ◌&&◌, List, [], ◌∷◌, ◌++◌, refl, sym, ap, subst, ◌∙◌}
use Rattle.std.specs.List.{list_all, flat_map}
use Rattle.rtx_tree.specs.declared.code.Code.{Code}
use Rattle.rtx_tree.specs.declared.code.Code.TheVariants as code
use Rattle.rtx_tree.specs.declared.code.Mode.{Mode}
use Rattle.rtx_tree.specs.declared.tree.Rtx.{Rtx, out-Rtx, out-roll-Rtx}
use Rattle.rtx_tree.specs.Tree.{RtxHead, kids_of, tree_of}
use Rattle.rtl_func.specs.Nodes.{nodes_of}
use Rattle.rtl_func.specs.Shapes.{has_mode}
use Rattle.rtl_func.proofs.NodeLaws.{nodes_out}
use Rattle.text_words.specs.Words.{fits_i64}
use Rattle.law_plain_leaves.specs.Machine.{is_named_by, is_printable, Throughout, ArePrintable}
use Rattle.law_plain_leaves.proofs.Shaped.{Each, two_of}

-- a register has a mode
abbrev pub is_moded_by : Code → Mode → Bool
is_moded_by code.Reg m = has_mode m
is_moded_by _ m = true

abbrev pub is_sound : Rtx → Bool
is_sound x = is_printable x && is_moded_by (out-Rtx x).code (out-Rtx x).mode

abbrev pub AreSound : Rtx → Type 0
AreSound x = Throughout is_sound x

pub both_true : (p q : Bool) → p ≡ true → q ≡ true → (p && q) ≡ true
both_true true q one other = other
both_true false q one other = cc

-- ---- what is made of sound parts

module _ (p : Rtx → Bool) where
  joined : (xs ys : List Rtx) → list_all p xs ≡ true → list_all p ys ≡ true → list_all p (xs ++ ys) ≡ true
  joined [] ys one other = other
  joined (x ∷ xs) ys one other = let two = two_of (p x) (list_all p xs) one in both_true (p x) (list_all p (xs ++ ys)) two.0 (joined xs ys two.1 other)

  all_within : (xs : List Rtx) → Each p xs → list_all p (flat_map nodes_of xs) ≡ true
  all_within [] each = refl
  all_within (x ∷ xs) each = joined (nodes_of x) (flat_map nodes_of xs) each.0 (all_within xs each.1)

  pub throughout : (x : Rtx) → p x ≡ true → Each p (kids_of x) → Throughout p x
  throughout x here each = ap (list_all p) (nodes_out x) ∙ both_true (p x) (list_all p (flat_map nodes_of (kids_of x))) here (all_within (kids_of x) each)

-- what a tree's head has to be
pub record IsSoundHead (h : RtxHead) : Type 0 where
  pub fits : fits_i64 h.number ≡ true
  pub named : is_named_by h.code h.name ≡ true
  pub moded : is_moded_by h.code h.mode ≡ true

pub sound : (h : RtxHead) (kids : List Rtx) → IsSoundHead h → Each is_sound kids → AreSound (tree_of h kids)
sound h kids head each =
    let here : is_sound (tree_of h kids) ≡ true =
    ap (λ o. (fits_i64 o.number && is_named_by o.code o.name) && is_moded_by o.code o.mode) (out-roll-Rtx _) ∙
    both_true (fits_i64 h.number && is_named_by h.code h.name) (is_moded_by h.code h.mode) (both_true (fits_i64 h.number) (is_named_by h.code h.name) head.fits head.named) head.moded in
    throughout is_sound (tree_of h kids) here (subst (Each is_sound) (sym (ap (λ o. o.kids) (out-roll-Rtx _))) each)

-- ---- what is sound can be printed

weaker : (xs : List Rtx) → list_all is_sound xs ≡ true → list_all is_printable xs ≡ true
weaker [] all = refl
weaker (x ∷ xs) all =
    let two = two_of (is_sound x) (list_all is_sound xs) all in
    both_true (is_printable x) (list_all is_printable xs) (two_of (is_printable x) (is_moded_by (out-Rtx x).code (out-Rtx x).mode) two.0).0 (weaker xs two.1)

pub printable : (x : Rtx) → AreSound x → ArePrintable x
printable x all = weaker (nodes_of x) all
