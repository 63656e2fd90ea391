-- A tree within the table is put together of its parts.
use Rattle.std.proofs.Common.{◌≡◌, ℕ, Bool, true, false, not, ◌&&◌, ◌||◌, List, [], ◌∷◌, ◌++◌, refl, sym, ap, ◌∙◌}
use Rattle.std.specs.Int.{cast_unsigned, w64}
use Rattle.std.specs.List.{list_all, flat_map}
use Rattle.rtx_tree.specs.declared.function.Kind.{Kind}
use Rattle.rtx_tree.specs.declared.tree.Rtx.{Rtx, out-Rtx, out-roll-Rtx}
use Rattle.rtx_tree.specs.Code.{class_of_code}
use Rattle.rtx_tree.specs.Tree.{RtxHead, tree_of}
use Rattle.rtl_func.specs.Kinds.{is_jump_by, is_plain_tree, kinds_agree}
use Rattle.rtl_func.specs.Modes.{modes_agree}
use Rattle.rtl_func.specs.Nodes.{nodes_of}
use Rattle.rtl_func.specs.Shapes.{is_bare, fits_row, is_shaped, has_call_mode_by, has_call_mode, is_call_class}
use Rattle.rtl_func.proofs.NodeLaws.{nodes_out}
use Rattle.law_plain_leaves.specs.Machine.{Throughout}
use Rattle.law_plain_leaves.proofs.Shaped.{Each}

pub both_true : (p q : Bool) → p ≡ true → q ≡ true → (p && q) ≡ true
both_true true q one other = other
both_true false q one other = cc

module _ (p : Rtx → Bool) where
  joined : (xs ys : List Rtx) → list_all p xs ≡ true → list_all p ys ≡ true → list_all p (xs ++ ys) ≡ true
  joined [] ys all more = more
  joined (x ∷ xs) ys all more = both_true (p x) (list_all p (xs ++ ys)) (first (p x) (list_all p xs) all) (joined xs ys (rest (p x) (list_all p xs) all) more)
    where
      first : (a b : Bool) → (a && b) ≡ true → a ≡ true
      first true b is = refl
      first false b is = cc

      rest : (a b : Bool) → (a && b) ≡ true → b ≡ true
      rest true b is = is
      rest false b is = cc

  within : (xs : List Rtx) → Each p xs → list_all p (flat_map nodes_of xs) ≡ true
  within [] each = refl
  within (x ∷ xs) each = joined (nodes_of x) (flat_map nodes_of xs) each.0 (within xs each.1)

  -- of a tree and of all within its parts
  pub through : (h : RtxHead) (kids : List Rtx) → p (tree_of h kids) ≡ true → Each p kids → Throughout p (tree_of h kids)
  through h kids here each =
      let x = tree_of h kids in
      let parts = ap (λ o. o.kids) (out-roll-Rtx (record { code = h.code; mode = h.mode; number = h.number; name = h.name; kids = kids })) in
      ap (list_all p) (nodes_out x) ∙
      (ap (λ kids. p x && list_all p (flat_map nodes_of kids)) parts ∙ both_true (p x) (list_all p (flat_map nodes_of kids)) here (within kids each))

-- ---- an instruction is within the table, and of its kind

abbrev pub is_formed_as : Kind → Rtx → Bool
is_formed_as kind x = modes_agree x && kinds_agree kind x

-- ---- a tree without effects, within the table

pub record IsGood (x : Rtx) : Type 0 where
  pub shaped : Throughout is_shaped x
  pub called : Throughout has_call_mode x
  pub plain : Throughout is_plain_tree x

-- each of some trees
abbrev pub AreGood : List Rtx → Type 0
AreGood [] = Unit {0}
AreGood (x ∷ xs) = IsGood x × AreGood xs

pub shaped_each : (xs : List Rtx) → AreGood xs → Each is_shaped xs
shaped_each [] all = tt
shaped_each (x ∷ xs) all = (all.0.shaped, shaped_each xs all.1)

pub called_each : (xs : List Rtx) → AreGood xs → Each has_call_mode xs
called_each [] all = tt
called_each (x ∷ xs) all = (all.0.called, called_each xs all.1)

pub plain_each : (xs : List Rtx) → AreGood xs → Each is_plain_tree xs
plain_each [] all = tt
plain_each (x ∷ xs) all = (all.0.plain, plain_each xs all.1)

-- ---- what is asked of a tree itself, by its head and its parts

abbrev pub fits_head : RtxHead → List Rtx → Bool
fits_head h kids = is_bare (class_of_code h.code) (cast_unsigned w64 h.number) h.name && fits_row (class_of_code h.code) h.mode (cast_unsigned w64 h.number) kids

abbrev pub is_plain_head : RtxHead → List Rtx → Bool
is_plain_head h kids = not (is_jump_by (class_of_code h.code) kids || is_call_class (class_of_code h.code))

module _ (h : RtxHead) (kids : List Rtx) where
  pub shaped_head : is_shaped (tree_of h kids) ≡ fits_head h kids
  shaped_head =
      ap (λ o. is_bare (class_of_code o.code) (cast_unsigned w64 o.number) o.name && fits_row (class_of_code o.code) o.mode (cast_unsigned w64 o.number) o.kids)
      (out-roll-Rtx (record { code = h.code; mode = h.mode; number = h.number; name = h.name; kids = kids }))

  pub called_head : has_call_mode (tree_of h kids) ≡ has_call_mode_by (class_of_code h.code) kids
  called_head = ap (λ o. has_call_mode_by (class_of_code o.code) o.kids) (out-roll-Rtx (record { code = h.code; mode = h.mode; number = h.number; name = h.name; kids = kids }))

  pub plain_head : is_plain_tree (tree_of h kids) ≡ is_plain_head h kids
  plain_head = ap (λ o. not (is_jump_by (class_of_code o.code) o.kids || is_call_class (class_of_code o.code))) (out-roll-Rtx (record { code = h.code; mode = h.mode; number = h.number; name = h.name; kids = kids }))

  pub good : fits_head h kids ≡ true → has_call_mode_by (class_of_code h.code) kids ≡ true → is_plain_head h kids ≡ true → AreGood kids → IsGood (tree_of h kids)
  good fits calls plain all = record {
    shaped = through is_shaped h kids (shaped_head ∙ fits) (shaped_each kids all);
    called = through has_call_mode h kids (called_head ∙ calls) (called_each kids all);
    plain = through is_plain_tree h kids (plain_head ∙ plain) (plain_each kids all);
  }
