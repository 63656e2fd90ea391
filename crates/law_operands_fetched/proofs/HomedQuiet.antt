-- None of t3 to t6 stands in a tree with homes put in, where none is the home of a register of the tree.
use Rattle.std.proofs.Common.{◌≡◌, ◌⊎◌, inl, inr, ℕ, ◌||◌, true, false, List, [], ◌∷◌, map, Option, Some, None, refl, sym, ap, ◌∙◌}
use Rattle.std.specs.Int.{int_wrap, w64}
use Rattle.std.specs.List.{AllByRecursion, list_any}
use Rattle.std.specs.Ordering.{int_eq}
use Rattle.std.specs.Prelude.{ℤ, pos, negsuc}
use Rattle.law_operands_replaced.specs.rtx_tree.Tree.{head_of, kids_of, tree_of, is_reg_numbered, mentions_reg}
use Rattle.law_operands_replaced.specs.rtx_tree.declared.code.Code.{Code}
use Rattle.law_operands_replaced.specs.rtx_tree.declared.code.Code.TheVariants as code
use Rattle.law_operands_replaced.specs.rtx_tree.declared.code.Mode.{Mode}
use Rattle.law_operands_replaced.specs.rtx_tree.declared.code.Mode.TheVariants.{DI}
use Rattle.law_operands_replaced.specs.rtx_tree.declared.tree.Rtx.{Rtx, out-roll-Rtx}
use Rattle.law_operands_replaced.specs.rtx_tree.declared.tree.Rtx.TheOpen.{Rtx-F}
use Rattle.law_operands_replaced.proofs.rtx_tree.Trees.{mentions_out}
use Rattle.assign.specs.declared.home.Home.{Home}
use Rattle.assign.specs.declared.home.Home.TheVariants.{Hard, Slot}
use Rattle.assign.specs.declared.home.HomeOf.{HomeOf}
use Rattle.assign.specs.declared.places.Layout.{Layout}
use Rattle.reload_homes.specs.Homes.{home_of, slot_offset, slot_address, place_by, register_numbered, register_by, register_at, homed}
use Rattle.reload_homes.proofs.Rewrites.{homed_register, homed_over}
use Rattle.law_operands_replaced.specs.Spare.{is_spare, NamesNoSpare}
use Rattle.law_operands_fetched.proofs.SmallTrees.{tree_induction, one_or_other, or_second, no_number, stands_there, stands_part, in_register, in_sp}
use Rattle.law_operands_fetched.proofs.GivenBases.{numbered_is}

-- ---- the register that a tree is, or of which it is the low part

pub data RegisterCase (x : Rtx) (reg : ℕ) : Type 0 where
  whole : (head_of x).code ≡ code.Reg → (head_of x).number ≡ pos reg → RegisterCase x reg
  low : (inner : Rtx) → (head_of x).code ≡ code.Subreg → kids_of x ≡ inner ∷ [] → (head_of inner).code ≡ code.Reg →
      (head_of inner).number ≡ pos reg →
      RegisterCase x reg

register_case : (x : Rtx) (reg : ℕ) (c : Code) (kids : List Rtx) → (head_of x).code ≡ c → kids_of x ≡ kids →
    register_by c x kids ≡ Some reg → RegisterCase x reg
register_case x reg code.Subreg [] is are at = let r = numbered_is (head_of x).code (head_of x).number reg at in whole r.0 r.1
register_case x reg code.Subreg (inner ∷ []) is are at =
    let r = numbered_is (head_of inner).code (head_of inner).number reg at in low inner is are r.0 r.1
register_case x reg code.Subreg (a ∷ b ∷ kids) is are at = let r = numbered_is (head_of x).code (head_of x).number reg at in whole r.0 r.1
register_case x reg c kids is are at = let r = numbered_is (head_of x).code (head_of x).number reg at in whole r.0 r.1

pub case_of : (x : Rtx) (reg : ℕ) → register_at x ≡ Some reg → RegisterCase x reg
case_of x reg at = register_case x reg (head_of x).code (kids_of x) refl refl at

module _ (homes : List HomeOf) (layout : Layout) where
  abbrev hm : Rtx → Rtx
  hm = homed homes layout

  -- none of t3 to t6 is the home of a register that stands in the tree
  abbrev pub HasQuietHomes : Rtx → Type 0
  HasQuietHomes x = (reg hard : ℕ) → mentions_reg reg x ≡ true → home_of homes reg ≡ Hard hard → is_spare hard ≡ false

  in_place : (mode : Mode) (reg r : ℕ) (home : Home) → home_of homes reg ≡ home →
      ((hard : ℕ) → home_of homes reg ≡ Hard hard → is_spare hard ≡ false) →
      mentions_reg r (place_by layout mode reg home) ≡ true → is_spare r ≡ false
  in_place mode reg r (Hard hard) is quiet has = ap is_spare (sym (in_register mode hard r has)) ∙ quiet hard is
  in_place mode reg r Slot is quiet has =
      let n : ℤ = int_wrap w64 (pos (slot_offset layout reg)) in
      let there : mentions_reg r (slot_address layout reg) || false ≡ true = sym (mentions_out r (place_by layout mode reg Slot) ∙
      ap (λ (o : Rtx-F Rtx). is_reg_numbered o.code o.number r || list_any (mentions_reg r) o.kids) (out-roll-Rtx _)) ∙ has in
      by (one_or_other (mentions_reg r (slot_address layout reg)) false there)
    where
      by : (mentions_reg r (slot_address layout reg) ≡ true) ⊎ (false ≡ true) → is_spare r ≡ false
      by (inl here) = ap is_spare (sym (in_sp DI (int_eq (int_wrap w64 (pos (slot_offset layout reg))) (pos 0))
          (int_wrap w64 (pos (slot_offset layout reg))) r here))
      by (inr wrong) = absurd (let never : ⊥ = cc in never)

  abbrev P : Rtx → Type 0
  P x = HasQuietHomes x → NamesNoSpare (hm x)

  some_kid : (xs : List Rtx) → AllByRecursion P xs → ((reg hard : ℕ) → list_any (mentions_reg reg) xs ≡ true →
      home_of homes reg ≡ Hard hard → is_spare hard ≡ false) →
      (r : ℕ) → list_any (mentions_reg r) (map hm xs) ≡ true → is_spare r ≡ false
  some_kid [] each quiet r has = absurd (let no : ⊥ = cc in no)
  some_kid (x ∷ xs) each quiet r has = by (one_or_other (mentions_reg r (hm x)) _ has)
      (λ here. each.0 (λ reg hard is home. quiet reg hard (ap (λ b. b || list_any (mentions_reg reg) xs) is) home) r here)
      (λ later. some_kid xs each.1 (λ reg hard is home. quiet reg hard (or_second (mentions_reg reg x) _ is) home) r later)
    where
      by : (mentions_reg r (hm x) ≡ true) ⊎ (list_any (mentions_reg r) (map hm xs) ≡ true) →
          (mentions_reg r (hm x) ≡ true → is_spare r ≡ false) →
          (list_any (mentions_reg r) (map hm xs) ≡ true → is_spare r ≡ false) → is_spare r ≡ false
      by (inl here) first second = first here
      by (inr later) first second = second later

  named_there : (x : Rtx) (reg : ℕ) → RegisterCase x reg → mentions_reg reg x ≡ true
  named_there x reg (whole is number) = stands_there x reg is number
  named_there x reg (low inner is are is' number) = stands_part x reg (ap (list_any (mentions_reg reg)) are ∙
      ap (λ b. b || false) (stands_there inner reg is' number))

  by_code : (x : Rtx) (r : ℕ) → (head_of x).code ≡ code.Reg → (head_of x).number ≡ pos r → register_at x ≡ Some r
  by_code x r is number =
      ap (λ c. register_by c x (kids_of x)) is ∙ ap (λ c. register_numbered c (head_of x).number) is ∙
      ap (register_numbered code.Reg) number

  quiet_by : (x : Rtx) (o : Option ℕ) → register_at x ≡ o → AllByRecursion P (kids_of x) → P x
  quiet_by x (Some reg) at each quiet r has =
      in_place (head_of x).mode reg r (home_of homes reg) refl (λ hard home. quiet reg hard (named_there x reg (case_of x reg at)) home)
      (sym (ap (mentions_reg r) (homed_register homes layout x reg at)) ∙ has)
  quiet_by x None at each quiet r has =
      let open_is : is_reg_numbered (head_of x).code (head_of x).number r || list_any (mentions_reg r) (map hm (kids_of x)) ≡ true =
      sym (ap (mentions_reg r) (homed_over homes layout x at) ∙ mentions_out r (tree_of (head_of x) (map hm (kids_of x))) ∙
      ap (λ (o : Rtx-F Rtx). is_reg_numbered o.code o.number r || list_any (mentions_reg r) o.kids) (out-roll-Rtx _)) ∙ has in
      by (one_or_other (is_reg_numbered (head_of x).code (head_of x).number r) _ open_is)
      (λ there. some_kid (kids_of x) each (λ reg hard is home. quiet reg hard (stands_part x reg is) home) r there)
    where
      by : (is_reg_numbered (head_of x).code (head_of x).number r ≡ true) ⊎ (list_any (mentions_reg r) (map hm (kids_of x)) ≡ true) →
          (list_any (mentions_reg r) (map hm (kids_of x)) ≡ true → is_spare r ≡ false) → is_spare r ≡ false
      by (inr there) later = later there
      by (inl here) later = let n = no_number (head_of x).code (head_of x).number r here in
          absurd (let e : ◌≡◌ {A = Option ℕ} None (Some r) = sym at ∙ by_code x r n.0 n.1 in let no : ⊥ = cc in no)

  pub homed_quiet : (x : Rtx) → HasQuietHomes x → NamesNoSpare (hm x)
  homed_quiet x quiet = tree_induction P (λ x each. quiet_by x (register_at x) refl each) x quiet
