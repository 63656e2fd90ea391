-- A tree within the table of codes is within it with references to the frame put in, where virtual-stack-vars is changed nowhere in it; and of
-- registers sp alone stands newly in it.
use Rattle.std.proofs.Common.{◌≡◌, ◌⊎◌, inl, inr, ℕ, ◌&&◌, ◌||◌, ◌==◌, not, Bool, true, false, List, [], ◌∷◌, map, Option, Some, None, refl, sym, ap, subst, ◌∙◌}
use Rattle.std.proofs.lemmas.Bool.{and_parts, and_from}
use Rattle.std.specs.Int.{cast_unsigned, int_wrap, w64}
use Rattle.std.specs.List.{AllByRecursion, list_all, list_any}
use Rattle.std.specs.Ordering.{int_eq}
use Rattle.std.specs.Prelude.{ℤ, pos, ◌+ℤ◌}
use Rattle.law_operands_fetched.specs.rtx_tree.Code.{class_of_code}
use Rattle.law_operands_fetched.specs.rtx_tree.Tree.{RtxHead, head_of, kids_of, tree_of, is_reg_numbered, mentions_reg}
use Rattle.law_operands_fetched.specs.rtx_tree.declared.class.Class.{Class}
use Rattle.law_operands_fetched.specs.rtx_tree.declared.class.Class.TheVariants as class
use Rattle.law_operands_fetched.specs.rtx_tree.declared.code.Code.{Code}
use Rattle.law_operands_fetched.specs.rtx_tree.declared.code.Code.TheVariants as code
use Rattle.law_operands_fetched.specs.rtx_tree.declared.code.Mode.{Mode}
use Rattle.law_operands_fetched.specs.rtx_tree.declared.tree.Rtx.{Rtx, out-roll-Rtx}
use Rattle.law_operands_fetched.specs.rtx_tree.declared.tree.Rtx.TheOpen.{Rtx-F}
use Rattle.law_operands_fetched.proofs.rtx_tree.Trees.{head_of-tree, kids_of-tree, mentions_out}
use Rattle.law_operands_fetched.specs.rtl_func.Shapes.{class_at, mode_at, number_at, is_narrower, is_true_register, is_bare, fits_row, is_shaped}
use Rattle.law_operands_fetched.proofs.rtl_func.AllPass.{all_pass, itself, within}
use Rattle.law_operands_fetched.specs.sym_insns.Shape.{is_natural, all_natural}
use Rattle.law_operands_fetched.specs.reload_homes.FrameRefs.{frame_offset, framed}
use Rattle.law_operands_fetched.proofs.reload_homes.Rewrites.{framed_reference, framed_over}
use Rattle.law_reload_moves.proofs.FramedTrees.{FrameCase, alone, sum, frame_case, row_of, case_mode, keeps_vars, all_alike, first_by}
use Rattle.law_reload_moves.proofs.Shaping.{row_too, is_low}
use Rattle.law_operands_fetched.proofs.SmallTrees.{tree_induction, tree_shaped, sp_shaped, natural_out, sp_natural, one_or_other, or_second, stands_part, in_sp}

-- ---- a low part is one of a register other than virtual-stack-vars

low_code : (c : Code) → is_low (class_of_code c) ≡ true → c ≡ code.Subreg
low_code code.Subreg is = refl
low_code _ is = absurd (let no : ⊥ = cc in no)

low_inner : (k : Class) (mode : Mode) (number : ℕ) (kids : List Rtx) → is_low k ≡ true → fits_row k mode number kids ≡ true →
    (inner : Rtx) × ((kids ≡ inner ∷ []) × (is_true_register (class_at inner) (number_at inner) ≡ true))
low_inner class.Lowpart mode number (a ∷ []) is fits = (a, (refl, (and_parts (is_true_register (class_at a) (number_at a)) _ fits).0))
low_inner class.Lowpart mode number [] is fits = absurd (let no : ⊥ = cc in no)
low_inner class.Lowpart mode number (a ∷ b ∷ []) is fits = absurd (let no : ⊥ = cc in no)
low_inner class.Lowpart mode number (a ∷ b ∷ c ∷ []) is fits = absurd (let no : ⊥ = cc in no)
low_inner class.Lowpart mode number (a ∷ b ∷ c ∷ d ∷ kids) is fits = absurd (let no : ⊥ = cc in no)
low_inner _ mode number kids is fits = absurd (let no : ⊥ = cc in no)

vars_not_true : (x : Rtx) → FrameCase x → is_true_register (class_at x) (number_at x) ≡ true → ⊥
vars_not_true x (alone is number) true_is =
    let e : false ≡ true = sym (ap (λ c. is_true_register (class_of_code c) (number_at x)) is ∙
    ap (λ n. not (cast_unsigned w64 n == 32)) number) ∙ true_is in
    let no : ⊥ = cc in no
vars_not_true x (sum base constant is are) true_is =
    let e : false ≡ true = sym (ap (λ c. is_true_register (class_of_code c) (number_at x)) is) ∙ true_is in let no : ⊥ = cc in no

low_fits : (k : Class) (mode : Mode) (number : ℕ) (a b : Rtx) → is_low k ≡ true → head_of b ≡ head_of a →
    fits_row k mode number (a ∷ []) ≡ true →
    fits_row k mode number (b ∷ []) ≡ true
low_fits class.Lowpart mode number a b is head fits =
    ap (λ (h : RtxHead). is_true_register (class_of_code h.code) (cast_unsigned w64 h.number) && is_narrower mode h.mode) head ∙ fits
low_fits _ mode number a b is head fits = absurd (let no : ⊥ = cc in no)

module _ (size : ℕ) where
  abbrev fr : Rtx → Rtx
  fr = framed size

  kept_head : (x : Rtx) (o : Option ℤ) → frame_offset x ≡ o → is_true_register (class_at x) (number_at x) ≡ true →
      head_of (fr x) ≡ head_of x
  kept_head x (Some n) at is = absurd (vars_not_true x (frame_case x n at) is)
  kept_head x None at is = ap head_of (framed_over size x at) ∙ head_of-tree (head_of x) (map fr (kids_of x))

  low_row : (x : Rtx) → is_low (class_at x) ≡ true → is_shaped x ≡ true →
      fits_row (class_at x) (mode_at x) (number_at x) (map fr (kids_of x)) ≡ true
  low_row x is shaped =
      let k = low_inner (class_at x) (mode_at x) (number_at x) (kids_of x) is (row_of x shaped) in
      ap (λ ks. fits_row (class_at x) (mode_at x) (number_at x) (map fr ks)) k.1.0 ∙
      low_fits (class_at x) (mode_at x) (number_at x) k.0 (fr k.0) is (kept_head k.0 (frame_offset k.0) refl k.1.1)
      (ap (fits_row (class_at x) (mode_at x) (number_at x)) (sym k.1.0) ∙ row_of x shaped)

  any_row : (low : Bool) (x : Rtx) → is_low (class_at x) ≡ low → is_shaped x ≡ true → keeps_vars x ≡ true →
      fits_row (class_at x) (mode_at x) (number_at x) (map fr (kids_of x)) ≡ true
  any_row true x is shaped keeps = low_row x is shaped
  any_row false x is shaped keeps = row_too (class_at x) (mode_at x) (number_at x) (kids_of x) (map fr (kids_of x))
      (all_alike size (kids_of x))
      (first_by size x (kids_of x) refl keeps) is (row_of x shaped)

  -- ---- all trees

  record Good (x : Rtx) : Type 0 where
    shaped : all_pass is_shaped x ≡ true
    natural : all_natural x ≡ true

  abbrev P : Rtx → Type 0
  P x = Good x → all_pass keeps_vars x ≡ true → Good (fr x)

  record AllGood (xs : List Rtx) : Type 0 where
    shaped : list_all (all_pass is_shaped) xs ≡ true
    natural : list_all all_natural xs ≡ true

  kids_good : (xs : List Rtx) → AllByRecursion P xs → AllGood xs → list_all (all_pass keeps_vars) xs ≡ true → AllGood (map fr xs)
  kids_good [] each good keeps = record { shaped = refl; natural = refl }
  kids_good (x ∷ xs) each good keeps =
      let first = and_parts (all_pass is_shaped x) _ good.shaped in
      let second = and_parts (all_natural x) _ good.natural in
      let third = and_parts (all_pass keeps_vars x) _ keeps in
      let here = each.0 (record { shaped = first.0; natural = second.0 }) third.0 in
      let rest = kids_good xs each.1 (record { shaped = first.1; natural = second.1 }) third.1 in record {
        shaped = and_from (all_pass is_shaped (fr x)) _ here.shaped rest.shaped;
        natural = and_from (all_natural (fr x)) _ here.natural rest.natural;
      }

  shape_of : RtxHead → List Rtx → Bool
  shape_of h kids = is_bare (class_of_code h.code) (cast_unsigned w64 h.number) h.name && fits_row
      (class_of_code h.code) h.mode (cast_unsigned w64 h.number) kids

  over_shaped : (x : Rtx) (kids : List Rtx) → fits_row (class_at x) (mode_at x) (number_at x) kids ≡ true →
      is_shaped x ≡ true → is_shaped (tree_of (head_of x) kids) ≡ true
  unfolding shape_of
  over_shaped x kids row shaped =
      let y = tree_of (head_of x) kids in
      ap (λ h. shape_of h (kids_of y)) (head_of-tree (head_of x) kids) ∙ ap (shape_of (head_of x)) (kids_of-tree (head_of x) kids) ∙
      and_from (is_bare (class_at x) (number_at x) (head_of x).name) _
      (and_parts (is_bare (class_at x) (number_at x) (head_of x).name) _ shaped).0 row

  good_by : (x : Rtx) (o : Option ℤ) → frame_offset x ≡ o → AllByRecursion P (kids_of x) → P x
  good_by x (Some n) at each good keeps =
      let m : ℤ = int_wrap w64 (pos size +ℤ n) in
      subst Good (sym (framed_reference size x n at)) (record {
        shaped = sp_shaped (head_of x).mode (int_eq m (pos 0)) m (case_mode x (frame_case x n at) (itself is_shaped x good.shaped));
        natural = sp_natural (head_of x).mode (int_eq m (pos 0)) m;
      })
  good_by x None at each good keeps =
      let here = itself is_shaped x good.shaped in
      let own = and_parts (is_natural (head_of x).code (head_of x).number) _ (sym (natural_out x) ∙ good.natural) in
      let kids = kids_good (kids_of x) each (record { shaped = within is_shaped x good.shaped; natural = own.1 })
      (within keeps_vars x keeps) in
      subst Good (sym (framed_over size x at)) (record {
        shaped = tree_shaped (tree_of (head_of x) (map fr (kids_of x))) (map fr (kids_of x)) (kids_of-tree _ _)
            (over_shaped x (map fr (kids_of x)) (any_row (is_low (class_at x)) x refl here (itself keeps_vars x keeps)) here) kids.shaped;
        natural = natural_out (tree_of (head_of x) (map fr (kids_of x))) ∙
            ap (λ (o : Rtx-F Rtx). is_natural o.code o.number && list_all all_natural o.kids) (out-roll-Rtx _) ∙
            and_from (is_natural (head_of x).code (head_of x).number) _ own.0 kids.natural;
      })

  all_good : (x : Rtx) → P x
  all_good = tree_induction P (λ x each. good_by x (frame_offset x) refl each)

  pub framed_shaped : (x : Rtx) → all_pass is_shaped x ≡ true → all_natural x ≡ true → all_pass keeps_vars x ≡ true →
      all_pass is_shaped (fr x) ≡ true
  framed_shaped x shaped natural keeps = (all_good x (record { shaped = shaped; natural = natural }) keeps).shaped

  pub framed_natural : (x : Rtx) → all_pass is_shaped x ≡ true → all_natural x ≡ true → all_pass keeps_vars x ≡ true →
      all_natural (fr x) ≡ true
  framed_natural x shaped natural keeps = (all_good x (record { shaped = shaped; natural = natural }) keeps).natural

  -- ---- registers

  abbrev Q : Rtx → Type 0
  Q x = (r : ℕ) → mentions_reg r (fr x) ≡ true → (2 ≡ r) ⊎ (mentions_reg r x ≡ true)

  some_kid : (xs : List Rtx) → AllByRecursion Q xs → (r : ℕ) → list_any (mentions_reg r) (map fr xs) ≡ true →
      (2 ≡ r) ⊎ (list_any (mentions_reg r) xs ≡ true)
  some_kid [] each r has = absurd (let no : ⊥ = cc in no)
  some_kid (x ∷ xs) each r has = by (one_or_other (mentions_reg r (fr x)) _ has) (each.0 r) (some_kid xs each.1 r)
    where
      here : (2 ≡ r) ⊎ (mentions_reg r x ≡ true) → (2 ≡ r) ⊎ (list_any (mentions_reg r) (x ∷ xs) ≡ true)
      here (inl sp) = inl sp
      here (inr is) = inr (ap (λ b. b || list_any (mentions_reg r) xs) is)

      there : (2 ≡ r) ⊎ (list_any (mentions_reg r) xs ≡ true) → (2 ≡ r) ⊎ (list_any (mentions_reg r) (x ∷ xs) ≡ true)
      there (inl sp) = inl sp
      there (inr is) = inr (or_second (mentions_reg r x) _ is)

      by : (mentions_reg r (fr x) ≡ true) ⊎ (list_any (mentions_reg r) (map fr xs) ≡ true) →
          (mentions_reg r (fr x) ≡ true → (2 ≡ r) ⊎ (mentions_reg r x ≡ true)) →
          (list_any (mentions_reg r) (map fr xs) ≡ true → (2 ≡ r) ⊎ (list_any (mentions_reg r) xs ≡ true)) →
          (2 ≡ r) ⊎ (list_any (mentions_reg r) (x ∷ xs) ≡ true)
      by (inl is) first second = here (first is)
      by (inr is) first second = there (second is)

  register_by : (x : Rtx) (o : Option ℤ) → frame_offset x ≡ o → AllByRecursion Q (kids_of x) → Q x
  register_by x (Some n) at each r has =
      let m : ℤ = int_wrap w64 (pos size +ℤ n) in
      inl (in_sp (head_of x).mode (int_eq m (pos 0)) m r (sym (ap (mentions_reg r) (framed_reference size x n at)) ∙ has))
  register_by x None at each r has =
      let open_is : is_reg_numbered (head_of x).code (head_of x).number r || list_any (mentions_reg r) (map fr (kids_of x)) ≡ true =
      sym (ap (mentions_reg r) (framed_over size x at) ∙ mentions_out r (tree_of (head_of x) (map fr (kids_of x))) ∙
      ap (λ (o : Rtx-F Rtx). is_reg_numbered o.code o.number r || list_any (mentions_reg r) o.kids) (out-roll-Rtx _)) ∙ has in
      by (one_or_other (is_reg_numbered (head_of x).code (head_of x).number r) _ open_is) (some_kid (kids_of x) each r)
    where
      kid : (2 ≡ r) ⊎ (list_any (mentions_reg r) (kids_of x) ≡ true) → (2 ≡ r) ⊎ (mentions_reg r x ≡ true)
      kid (inl sp) = inl sp
      kid (inr is) = inr (stands_part x r is)

      by : (is_reg_numbered (head_of x).code (head_of x).number r ≡ true) ⊎ (list_any (mentions_reg r) (map fr (kids_of x)) ≡ true) →
          (list_any (mentions_reg r) (map fr (kids_of x)) ≡ true → (2 ≡ r) ⊎
          (list_any (mentions_reg r) (kids_of x) ≡ true)) → (2 ≡ r) ⊎ (mentions_reg r x ≡ true)
      by (inl here) later = inr (mentions_out r x ∙ ap (λ b. b || list_any (mentions_reg r) (kids_of x)) here)
      by (inr there) later = kid (later there)

  -- a register that stands in it is sp, or stands in the tree
  pub framed_register : (x : Rtx) → Q x
  framed_register = tree_induction Q (λ x each. register_by x (frame_offset x) refl each)
