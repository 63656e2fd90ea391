-- A register that stands in a tree stands in it with references to the frame put in, and its home with homes put in.
use Rattle.std.proofs.Common.{◌≡◌, ◌≢◌, ◌⊎◌, inl, inr, ℕ, ◌&&◌, ◌||◌, if◌then◌else◌, Bool, true, false, List, [], ◌∷◌, map, Option, Some, None, refl, sym, ap, ◌∙◌}
use Rattle.std.proofs.lemmas.Bool.{and_parts, or_left}
use Rattle.std.specs.List.{AllByRecursion, list_all, list_any}
use Rattle.std.specs.Prelude.{ℤ, pos}
use Rattle.law_operands_fetched.specs.rtx_tree.Code.{class_of_code}
use Rattle.law_operands_fetched.specs.rtx_tree.Tree.{RtxHead, head_of, kids_of, tree_of, reg_of, is_reg_numbered, mentions_reg}
use Rattle.law_operands_fetched.specs.rtx_tree.declared.code.Code.{Code}
use Rattle.law_operands_fetched.specs.rtx_tree.declared.code.Code.TheVariants as code
use Rattle.law_operands_fetched.specs.rtx_tree.declared.code.Mode.{Mode}
use Rattle.law_operands_fetched.specs.rtx_tree.declared.code.Mode.TheVariants.{DI}
use Rattle.law_operands_fetched.specs.rtx_tree.declared.tree.Rtx.{Rtx, out-roll-Rtx}
use Rattle.law_operands_fetched.specs.rtx_tree.declared.tree.Rtx.TheOpen.{Rtx-F}
use Rattle.law_operands_fetched.proofs.rtx_tree.Trees.{head_of-tree, mentions_out}
use Rattle.law_operands_fetched.specs.rtl_func.Shapes.{is_shaped}
use Rattle.law_operands_fetched.proofs.rtl_func.AllPass.{all_pass, itself, within}
use Rattle.law_operands_fetched.specs.md_operand.Addresses.{is_stack_vars, is_constant, is_any}
use Rattle.law_operands_fetched.specs.assign.declared.home.Home.{Home}
use Rattle.law_operands_fetched.specs.assign.declared.home.Home.TheVariants.{Hard}
use Rattle.law_operands_fetched.specs.assign.declared.home.HomeOf.{HomeOf}
use Rattle.law_operands_fetched.specs.assign.declared.places.Layout.{Layout}
use Rattle.law_operands_fetched.specs.reload_homes.FrameRefs.{in_bits, offset_by, frame_offset, framed}
use Rattle.law_operands_fetched.specs.reload_homes.Homes.{home_of, place_by, register_numbered, register_by, register_at, homed}
use Rattle.law_operands_fetched.proofs.reload_homes.Rewrites.{framed_over, homed_register, homed_over}
use Rattle.law_operands_fetched.proofs.law_homes.Trees.{constant_code}
use Rattle.law_operands_fetched.proofs.Based.{leaf_alone}
use Rattle.law_operands_fetched.proofs.HomedQuiet.{RegisterCase, whole, low, case_of}
use Rattle.law_operands_fetched.proofs.SmallTrees.{tree_induction, one_or_other, or_second, no_number, stands_there, in_register}

-- ---- small trees

-- in a register by itself no other stands
leaf_register : (x : Rtx) (a r : ℕ) → (head_of x).code ≡ code.Reg → (head_of x).number ≡ pos a → is_shaped x ≡ true → mentions_reg r x ≡ true → a ≡ r
leaf_register x a r is number shaped has =
    let none = leaf_alone x (inr (ap class_of_code is)) shaped in
    in_register DI a r (mentions_out r (reg_of DI a) ∙ ap (λ (o : Rtx-F Rtx). is_reg_numbered o.code o.number r || list_any (mentions_reg r) o.kids) (out-roll-Rtx _) ∙
    sym (mentions_out r x ∙ ap (λ ks. is_reg_numbered (head_of x).code (head_of x).number r || list_any (mentions_reg r) ks) none ∙
    ap (λ c. is_reg_numbered c (head_of x).number r || false) is ∙ ap (λ n. is_reg_numbered code.Reg n r || false) number) ∙ has)

-- none stands in a constant
no_constant : (x : Rtx) (r : ℕ) → (head_of x).code ≡ code.ConstInt → is_shaped x ≡ true → mentions_reg r x ≡ true → ⊥
no_constant x r is shaped has =
    let none = leaf_alone x (inl (ap class_of_code is)) shaped in
    let e : false ≡ true = sym (mentions_out r x ∙ ap (λ ks. is_reg_numbered (head_of x).code (head_of x).number r || list_any (mentions_reg r) ks) none ∙
    ap (λ c. is_reg_numbered c (head_of x).number r || false) is) ∙ has in
    let no : ⊥ = cc in no

-- in a tree of another code than a register's it stands in a part
in_part : (x : Rtx) (r : ℕ) (c : Code) → (head_of x).code ≡ c → is_reg_numbered c (head_of x).number r ≡ false → mentions_reg r x ≡ true → list_any (mentions_reg r) (kids_of x) ≡ true
in_part x r c is other has =
    sym (mentions_out r x ∙ ap (λ b. b || list_any (mentions_reg r) (kids_of x)) (ap (λ c. is_reg_numbered c (head_of x).number r) is ∙ other)) ∙ has

-- a tree with other parts, by itself and its parts
over_out : (x : Rtx) (kids : List Rtx) (r : ℕ) → mentions_reg r (tree_of (head_of x) kids) ≡ (is_reg_numbered (head_of x).code (head_of x).number r || list_any (mentions_reg r) kids)
over_out x kids r = mentions_out r (tree_of (head_of x) kids) ∙
    ap (λ (o : Rtx-F Rtx). is_reg_numbered o.code o.number r || list_any (mentions_reg r) o.kids) (out-roll-Rtx _)

-- ---- references to the frame

vars_only : (x : Rtx) (n : ℤ) (r : ℕ) (b : Bool) → is_stack_vars x ≡ b → (if b then Some (pos 0) else None) ≡ Some n → is_shaped x ≡ true → mentions_reg r x ≡ true → 32 ≡ r
vars_only x n r true is at shaped has =
    let v = no_number (head_of x).code (head_of x).number 32 is in leaf_register x 32 r v.0 v.1 shaped has
vars_only x n r false is at shaped has = absurd (let no : ⊥ = cc in no)

sum_only : (x a b : Rtx) (n : ℤ) (r : ℕ) (both : Bool) → (is_stack_vars a && is_constant is_any b) ≡ both → (if both then Some (in_bits (head_of b).number) else None) ≡ Some n →
    (head_of x).code ≡ code.Plus → kids_of x ≡ a ∷ b ∷ [] → is_shaped a ≡ true → is_shaped b ≡ true → mentions_reg r x ≡ true → 32 ≡ r
sum_only x a b n r false is at plus are shaped shaped' has = absurd (let no : ⊥ = cc in no)
sum_only x a b n r true is at plus are shaped shaped' has =
    let tests = and_parts (is_stack_vars a) (is_constant is_any b) is in
    let v = no_number (head_of a).code (head_of a).number 32 tests.0 in
    by v.0 v.1 (constant_code (head_of b).code (head_of b).number tests.1)
    (one_or_other (mentions_reg r a) (mentions_reg r b || false) (ap (list_any (mentions_reg r)) (sym are) ∙ in_part x r code.Plus plus refl has))
  where
    by : (head_of a).code ≡ code.Reg → (head_of a).number ≡ pos 32 → (head_of b).code ≡ code.ConstInt →
        (mentions_reg r a ≡ true) ⊎ ((mentions_reg r b || false) ≡ true) → 32 ≡ r
    by reg number constant (inl first) = leaf_register a 32 r reg number shaped first
    by reg number constant (inr second) = elim (one_or_other (mentions_reg r b) false second) [
      | inl here ↦ absurd (no_constant b r constant shaped' here)
      | inr wrong ↦ absurd (let no : ⊥ = cc in no)
    ]

-- in a reference to the frame virtual-stack-vars stands alone
reference_only : (x : Rtx) (n : ℤ) (r : ℕ) (c : Code) (kids : List Rtx) → (head_of x).code ≡ c → kids_of x ≡ kids → offset_by c x kids ≡ Some n →
    all_pass is_shaped x ≡ true → mentions_reg r x ≡ true → 32 ≡ r
reference_only x n r code.Plus (a ∷ b ∷ []) is are at shaped has =
    let kids = and_parts (all_pass is_shaped a) _ (ap (list_all (all_pass is_shaped)) (sym are) ∙ within is_shaped x shaped) in
    sum_only x a b n r (is_stack_vars a && is_constant is_any b) refl at is are (itself is_shaped a kids.0)
    (itself is_shaped b (and_parts (all_pass is_shaped b) true kids.1).0) has
reference_only x n r code.Plus [] is are at shaped has = vars_only x n r (is_stack_vars x) refl at (itself is_shaped x shaped) has
reference_only x n r code.Plus (a ∷ []) is are at shaped has = vars_only x n r (is_stack_vars x) refl at (itself is_shaped x shaped) has
reference_only x n r code.Plus (a ∷ b ∷ c ∷ kids) is are at shaped has = vars_only x n r (is_stack_vars x) refl at (itself is_shaped x shaped) has
reference_only x n r _ kids is are at shaped has = vars_only x n r (is_stack_vars x) refl at (itself is_shaped x shaped) has

module _ (size : ℕ) where
  abbrev fr : Rtx → Rtx
  fr = framed size

  abbrev P : Rtx → Type 0
  P x = all_pass is_shaped x ≡ true → (r : ℕ) → r ≢ 32 → mentions_reg r x ≡ true → mentions_reg r (fr x) ≡ true

  some_kid : (xs : List Rtx) → AllByRecursion P xs → list_all (all_pass is_shaped) xs ≡ true → (r : ℕ) → r ≢ 32 → list_any (mentions_reg r) xs ≡ true →
      list_any (mentions_reg r) (map fr xs) ≡ true
  some_kid [] each shaped r other has = absurd (let no : ⊥ = cc in no)
  some_kid (x ∷ xs) each shaped r other has =
      let both = and_parts (all_pass is_shaped x) (list_all (all_pass is_shaped) xs) shaped in
      elim (one_or_other (mentions_reg r x) (list_any (mentions_reg r) xs) has) [
        | inl here ↦ or_left (mentions_reg r (fr x)) _ (each.0 both.0 r other here)
        | inr more ↦ or_second (mentions_reg r (fr x)) _ (some_kid xs each.1 both.1 r other more)
      ]

  framed_by : (x : Rtx) (o : Option ℤ) → frame_offset x ≡ o → AllByRecursion P (kids_of x) → P x
  framed_by x (Some n) at each shaped r other has = absurd (other (sym (reference_only x n r (head_of x).code (kids_of x) refl refl at shaped has)))
  framed_by x None at each shaped r other has =
      ap (mentions_reg r) (framed_over size x at) ∙ over_out x (map fr (kids_of x)) r ∙
      by (one_or_other (is_reg_numbered (head_of x).code (head_of x).number r) (list_any (mentions_reg r) (kids_of x)) (sym (mentions_out r x) ∙ has))
    where
      by : (is_reg_numbered (head_of x).code (head_of x).number r ≡ true) ⊎ (list_any (mentions_reg r) (kids_of x) ≡ true) →
          is_reg_numbered (head_of x).code (head_of x).number r || list_any (mentions_reg r) (map fr (kids_of x)) ≡ true
      by (inl here) = or_left (is_reg_numbered (head_of x).code (head_of x).number r) _ here
      by (inr more) = or_second (is_reg_numbered (head_of x).code (head_of x).number r) _ (some_kid (kids_of x) each (within is_shaped x shaped) r other more)

  -- another register than virtual-stack-vars stands in a tree still
  pub framed_stands : (x : Rtx) → all_pass is_shaped x ≡ true → (r : ℕ) → r ≢ 32 → mentions_reg r x ≡ true → mentions_reg r (fr x) ≡ true
  framed_stands = tree_induction P (λ x each. framed_by x (frame_offset x) refl each)

-- ---- homes

module _ (homes : List HomeOf) (layout : Layout) where
  abbrev hm : Rtx → Rtx
  hm = homed homes layout

  abbrev Q : Rtx → Type 0
  Q x = all_pass is_shaped x ≡ true → (r h : ℕ) → home_of homes r ≡ Hard h → mentions_reg r x ≡ true → mentions_reg h (hm x) ≡ true

  some_home : (xs : List Rtx) → AllByRecursion Q xs → list_all (all_pass is_shaped) xs ≡ true → (r h : ℕ) → home_of homes r ≡ Hard h → list_any (mentions_reg r) xs ≡ true →
      list_any (mentions_reg h) (map hm xs) ≡ true
  some_home [] each shaped r h home has = absurd (let no : ⊥ = cc in no)
  some_home (x ∷ xs) each shaped r h home has =
      let both = and_parts (all_pass is_shaped x) (list_all (all_pass is_shaped) xs) shaped in
      elim (one_or_other (mentions_reg r x) (list_any (mentions_reg r) xs) has) [
        | inl here ↦ or_left (mentions_reg h (hm x)) _ (each.0 both.0 r h home here)
        | inr more ↦ or_second (mentions_reg h (hm x)) _ (some_home xs each.1 both.1 r h home more)
      ]

  -- the register that a tree is
  same_register : (x : Rtx) (reg r : ℕ) → RegisterCase x reg → all_pass is_shaped x ≡ true → mentions_reg r x ≡ true → reg ≡ r
  same_register x reg r (whole is number) shaped has = leaf_register x reg r is number (itself is_shaped x shaped) has
  same_register x reg r (low inner is are is' number) shaped has =
      let kid = (and_parts (all_pass is_shaped inner) true (ap (list_all (all_pass is_shaped)) (sym are) ∙ within is_shaped x shaped)).0 in
      elim (one_or_other (mentions_reg r inner) false (ap (list_any (mentions_reg r)) (sym are) ∙ in_part x r code.Subreg is refl has)) [
        | inl here ↦ leaf_register inner reg r is' number (itself is_shaped inner kid) here
        | inr wrong ↦ absurd (let no : ⊥ = cc in no)
      ]

  in_place : (mode : Mode) (reg h : ℕ) (home : Home) → home ≡ Hard h → mentions_reg h (place_by layout mode reg home) ≡ true
  in_place mode reg h home is = ap (λ home. mentions_reg h (place_by layout mode reg home)) is ∙
      stands_there (reg_of mode h) h (ap (λ (o : RtxHead). o.code) (head_of-tree _ _)) (ap (λ (o : RtxHead). o.number) (head_of-tree _ _))

  numbered_at : (x : Rtx) (r : ℕ) → (head_of x).code ≡ code.Reg → (head_of x).number ≡ pos r → register_at x ≡ Some r
  numbered_at x r is number =
      ap (λ c. register_by c x (kids_of x)) is ∙ ap (λ c. register_numbered c (head_of x).number) is ∙ ap (register_numbered code.Reg) number

  homed_by : (x : Rtx) (o : Option ℕ) → register_at x ≡ o → AllByRecursion Q (kids_of x) → Q x
  homed_by x (Some reg) at each shaped r h home has =
      ap (mentions_reg h) (homed_register homes layout x reg at) ∙
      in_place (head_of x).mode reg h (home_of homes reg) (ap (home_of homes) (same_register x reg r (case_of x reg at) shaped has) ∙ home)
  homed_by x None at each shaped r h home has =
      ap (mentions_reg h) (homed_over homes layout x at) ∙ over_out x (map hm (kids_of x)) h ∙
      by (one_or_other (is_reg_numbered (head_of x).code (head_of x).number r) (list_any (mentions_reg r) (kids_of x)) (sym (mentions_out r x) ∙ has))
    where
      by : (is_reg_numbered (head_of x).code (head_of x).number r ≡ true) ⊎ (list_any (mentions_reg r) (kids_of x) ≡ true) →
          is_reg_numbered (head_of x).code (head_of x).number h || list_any (mentions_reg h) (map hm (kids_of x)) ≡ true
      by (inl here) =
          let n = no_number (head_of x).code (head_of x).number r here in
          absurd (let e : ◌≡◌ {A = Option ℕ} None (Some r) = sym at ∙ numbered_at x r n.0 n.1 in let no : ⊥ = cc in no)
      by (inr more) = or_second (is_reg_numbered (head_of x).code (head_of x).number h) _ (some_home (kids_of x) each (within is_shaped x shaped) r h home more)

  -- the home of a register stands in the tree
  pub homed_stands : (x : Rtx) → all_pass is_shaped x ≡ true → (r h : ℕ) → home_of homes r ≡ Hard h → mentions_reg r x ≡ true → mentions_reg h (hm x) ≡ true
  homed_stands = tree_induction Q (λ x each. homed_by x (register_at x) refl each)
