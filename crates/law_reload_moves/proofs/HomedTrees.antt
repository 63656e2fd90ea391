-- A tree within the table has no low part once homes are put in, and its registers have natural numbers.
use Rattle.std.proofs.Common.{◌≡◌, ℕ, ◌&&◌, if◌then◌else◌, Bool, true, false, List, [], ◌∷◌, map, Option, Some, None, refl, sym, ap, subst, ◌∙◌}
use Rattle.std.proofs.lemmas.Bool.{and_parts}
use Rattle.std.specs.List.{AllByRecursion, list_all}
use Rattle.std.specs.Prelude.{ℤ, pos, negsuc}
use Rattle.law_operands_fetched.proofs.rtx_tree.Trees.{head_of-tree, kids_of-tree}
use Rattle.law_operands_fetched.specs.rtx_tree.Code.{class_of_code}
use Rattle.law_operands_fetched.specs.rtx_tree.Tree.{RtxHead, head_of, kids_of, tree_of, node_of, reg_of, const_of}
use Rattle.law_operands_fetched.specs.rtx_tree.declared.class.Class.TheVariants as class
use Rattle.law_operands_fetched.specs.rtx_tree.declared.code.Code.{Code}
use Rattle.law_operands_fetched.specs.rtx_tree.declared.code.Code.TheVariants as code
use Rattle.law_operands_fetched.specs.rtx_tree.declared.code.Mode.{Mode}
use Rattle.law_operands_fetched.specs.rtx_tree.declared.code.Mode.TheVariants.{Void, DI}
use Rattle.law_operands_fetched.specs.rtx_tree.declared.tree.Rtx.{Rtx, out-Rtx, roll-Rtx, out-roll-Rtx}
use Rattle.law_operands_fetched.specs.rtx_tree.declared.tree.Rtx.TheFolds.{fold_out-Rtx, ind-Rtx}
use Rattle.law_operands_fetched.specs.rtx_tree.declared.tree.Rtx.TheOpen.{Rtx-F}
use Rattle.std.specs.Int.{int_wrap, w64}
use Rattle.std.specs.Ordering.{int_eq}
use Rattle.law_operands_fetched.specs.rtl_func.Shapes.{class_at, mode_at, number_at, is_true_register, is_narrower, is_bare, fits_row, is_shaped}
use Rattle.law_operands_fetched.proofs.rtl_func.AllPass as nodes
use Rattle.law_operands_fetched.proofs.rtl_func.AllPass.{all_pass, pass_out}
use Rattle.law_operands_fetched.specs.sym_insns.Shape.{is_natural, natural_step, all_natural}
use Rattle.law_operands_fetched.specs.assign.declared.home.Home.{Home}
use Rattle.law_operands_fetched.specs.assign.declared.home.Home.TheVariants.{Hard, Slot}
use Rattle.law_operands_fetched.specs.assign.declared.home.HomeOf.{HomeOf}
use Rattle.law_operands_fetched.specs.assign.declared.places.Layout.{Layout}
use Rattle.law_operands_fetched.specs.reload_homes.Homes.{home_of, homed, register_numbered, register_by, register_at, place_by, slot_address, slot_offset}
use Rattle.law_operands_fetched.proofs.reload_homes.Rewrites.{homed_register, homed_over}
use Rattle.law_operands_fetched.specs.rv_regs.Registers.{stack_pointer}
use Rattle.law_operands_fetched.proofs.law_frame.law_window_replaced.Trees.{natural_kids, natural_here}
use Rattle.law_operands_fetched.proofs.law_operands_replaced.NewTrees.{is_lowpart_class, is_lowpart, is_whole}

all_of : (P : Rtx → Type 0) (kids : List ((x : Rtx) × P x)) → AllByRecursion P (map (λ (k : (x : Rtx) × P x). k.0) kids)
all_of P [] = tt
all_of P (k ∷ kids) = (k.1, all_of P kids)

-- what holds of each tree whose parts it holds of
pub induction : (P : Rtx → Type 0) → ((x : Rtx) → AllByRecursion P (kids_of x) → P x) → (x : Rtx) → P x
induction P step = ind-Rtx P (λ x y is.
    step (roll-Rtx x) (subst (λ (o : Rtx-F Rtx). AllByRecursion P o.kids) (sym (out-roll-Rtx x)) (subst (λ (z : Rtx-F Rtx). AllByRecursion P z.kids) is (all_of P y.kids))))

-- ---- no low part

whole_tree : (h : RtxHead) (kids : List Rtx) → is_lowpart_class (class_of_code h.code) ≡ false → list_all (all_pass is_whole) kids ≡ true → all_pass is_whole (tree_of h kids) ≡ true
whole_tree h kids low all =
    pass_out is_whole (tree_of h kids) ∙
    ap (λ b. (if b then false else true) && list_all (all_pass is_whole) (kids_of (tree_of h kids)))
    (ap (λ (h : RtxHead). is_lowpart_class (class_of_code h.code)) (head_of-tree h kids) ∙ low) ∙
    ap (list_all (all_pass is_whole)) (kids_of-tree h kids) ∙ all

whole_sp : (mode : Mode) → all_pass is_whole (reg_of mode stack_pointer) ≡ true
whole_sp mode = whole_tree (record { code = code.Reg; mode = mode; number = pos stack_pointer; name = [] }) [] refl refl

whole_sum : (mode : Mode) (n : ℤ) (b : Bool) →
    all_pass is_whole (if b then reg_of mode stack_pointer else node_of code.Plus mode (reg_of mode stack_pointer ∷ const_of n ∷ [])) ≡ true
whole_sum mode n true = whole_sp mode
whole_sum mode n false =
    whole_tree (record { code = code.Plus; mode = mode; number = pos 0; name = [] }) (reg_of mode stack_pointer ∷ const_of n ∷ []) refl
    (ap (λ b. b && (all_pass is_whole (const_of n) && true)) (whole_sp mode) ∙
    ap (λ b. b && true) (whole_tree (record { code = code.ConstInt; mode = Void; number = n; name = [] }) [] refl refl))

module _ (homes : List HomeOf) (layout : Layout) where
  abbrev hm : Rtx → Rtx
  hm = homed homes layout

  whole_place : (mode : Mode) (reg : ℕ) (home : Home) → all_pass is_whole (place_by layout mode reg home) ≡ true
  whole_place mode reg (Hard hard) = whole_tree (record { code = code.Reg; mode = mode; number = pos hard; name = [] }) [] refl refl
  whole_place mode reg Slot =
      whole_tree (record { code = code.Mem; mode = mode; number = pos 0; name = [] }) (slot_address layout reg ∷ []) refl
      (ap (λ b. b && true) (whole_sum DI (int_wrap w64 (pos (slot_offset layout reg))) (int_eq (int_wrap w64 (pos (slot_offset layout reg))) (pos 0))))

  pub lowpart_row : (c : Code) (mode : Mode) (number : ℕ) (kids : List Rtx) → c ≡ code.Subreg → fits_row (class_of_code c) mode number kids ≡ true →
      (a : Rtx) × ((kids ≡ a ∷ []) × (is_true_register (class_at a) (number_at a) ≡ true))
  lowpart_row code.Subreg mode number (a ∷ []) is fits = (a, (refl, (and_parts (is_true_register (class_at a) (number_at a)) (is_narrower mode (mode_at a)) fits).0))
  lowpart_row code.Subreg mode number [] is fits = absurd (let no : ⊥ = cc in no)
  lowpart_row code.Subreg mode number (a ∷ b ∷ []) is fits = absurd (let no : ⊥ = cc in no)
  lowpart_row code.Subreg mode number (a ∷ b ∷ c ∷ []) is fits = absurd (let no : ⊥ = cc in no)
  lowpart_row code.Subreg mode number (a ∷ b ∷ c ∷ d ∷ kids) is fits = absurd (let no : ⊥ = cc in no)
  lowpart_row _ mode number kids is fits = absurd (let no : ⊥ = cc in no)

  pub true_code : (c : Code) (number : ℕ) → is_true_register (class_of_code c) number ≡ true → c ≡ code.Reg
  true_code code.Reg number is = refl
  true_code _ number is = absurd (let no : ⊥ = cc in no)

  natural_number : (c : Code) (n : ℤ) → c ≡ code.Reg → is_natural c n ≡ true → (k : ℕ) × (register_numbered c n ≡ Some k)
  natural_number code.Reg (pos k) is natural = (k, refl)
  natural_number code.Reg (negsuc k) is natural = absurd (let no : ⊥ = cc in no)
  natural_number _ n is natural = absurd (let no : ⊥ = cc in no)

  -- the low part of a register is replaced
  pub low_placed : (x : Rtx) → (head_of x).code ≡ code.Subreg → is_shaped x ≡ true → all_natural x ≡ true → register_at x ≡ None → ⊥
  low_placed x is shaped natural none =
      let row = lowpart_row (head_of x).code (mode_at x) (number_at x) (kids_of x) is (and_parts (is_bare (class_at x) (number_at x) (head_of x).name) _ shaped).1 in
      let inner : Rtx = row.0 in
      let inner_natural : all_natural inner ≡ true = (and_parts (all_natural inner) true (ap (list_all all_natural) (sym row.1.0) ∙ natural_kids x natural)).0 in
      let n = natural_number (head_of inner).code (head_of inner).number (true_code (head_of inner).code (number_at inner) row.1.1) (natural_here inner inner_natural) in
      let here : register_at x ≡ Some n.0 = ap (λ c. register_by c x (kids_of x)) is ∙ ap (register_by code.Subreg x) row.1.0 ∙ n.1 in
      let e : ◌≡◌ {A = Option ℕ} None (Some n.0) = sym none ∙ here in let no : ⊥ = cc in no

  pub low_code : (c : Code) → is_lowpart_class (class_of_code c) ≡ true → c ≡ code.Subreg
  low_code code.Subreg is = refl
  low_code _ is = absurd (let no : ⊥ = cc in no)

  abbrev IsWhole : Rtx → Type 0
  IsWhole x = all_pass is_shaped x ≡ true → all_natural x ≡ true → all_pass is_whole (hm x) ≡ true

  all_whole : (xs : List Rtx) → AllByRecursion IsWhole xs → list_all (all_pass is_shaped) xs ≡ true → list_all all_natural xs ≡ true →
      list_all (all_pass is_whole) (map hm xs) ≡ true
  all_whole [] each shaped natural = refl
  all_whole (x ∷ xs) each shaped natural =
      let s = and_parts (all_pass is_shaped x) _ shaped in
      let n = and_parts (all_natural x) _ natural in
      ap (λ b. b && list_all (all_pass is_whole) (map hm xs)) (each.0 s.0 n.0) ∙ all_whole xs each.1 s.1 n.1

  whole_step : (x : Rtx) → AllByRecursion IsWhole (kids_of x) → IsWhole x
  whole_step x each shaped natural = by (register_at x) refl
    where
      not_low : register_at x ≡ None → (b : Bool) → is_lowpart_class (class_of_code (head_of x).code) ≡ b → b ≡ false
      not_low none true is = absurd (low_placed x (low_code (head_of x).code is) (nodes.itself is_shaped x shaped) natural none)
      not_low none false is = refl

      by : (o : Option ℕ) → register_at x ≡ o → all_pass is_whole (hm x) ≡ true
      by None none = ap (all_pass is_whole) (homed_over homes layout x none) ∙
          whole_tree (head_of x) (map hm (kids_of x)) (not_low none (is_lowpart_class (class_of_code (head_of x).code)) refl)
          (all_whole (kids_of x) each (nodes.within is_shaped x shaped) (natural_kids x natural))
      by (Some reg) has = ap (all_pass is_whole) (homed_register homes layout x reg has) ∙ whole_place (head_of x).mode reg (home_of homes reg)

  -- no low part is left
  pub homed_whole : (x : Rtx) → all_pass is_shaped x ≡ true → all_natural x ≡ true → all_pass is_whole (hm x) ≡ true
  homed_whole = induction IsWhole whole_step

  -- ---- natural numbers

  natural_tree : (h : RtxHead) (kids : List Rtx) → is_natural h.code h.number ≡ true → list_all all_natural kids ≡ true → all_natural (tree_of h kids) ≡ true
  natural_tree h kids here all =
      fold_out-Rtx Bool natural_step (tree_of h kids) ∙
      ap (λ (j : RtxHead). is_natural j.code j.number && list_all (λ here. here) (map all_natural (kids_of (tree_of h kids)))) (head_of-tree h kids) ∙
      ap (λ b. b && list_all (λ here. here) (map all_natural (kids_of (tree_of h kids)))) here ∙
      ap (λ ks. list_all (λ here. here) (map all_natural ks)) (kids_of-tree h kids) ∙ each kids ∙ all
    where
      each : (ks : List Rtx) → list_all (λ here. here) (map all_natural ks) ≡ list_all all_natural ks
      each [] = refl
      each (k ∷ ks) = ap (λ rest. all_natural k && rest) (each ks)

  module _ (homes_natural : (reg hard : ℕ) → home_of homes reg ≡ Hard hard → is_natural code.Reg (pos reg) ≡ true → is_natural code.Reg (pos hard) ≡ true) where
    natural_sp : (mode : Mode) → all_natural (reg_of mode stack_pointer) ≡ true
    natural_sp mode = natural_tree (record { code = code.Reg; mode = mode; number = pos stack_pointer; name = [] }) [] refl refl

    natural_sum : (mode : Mode) (n : ℤ) (b : Bool) →
        all_natural (if b then reg_of mode stack_pointer else node_of code.Plus mode (reg_of mode stack_pointer ∷ const_of n ∷ [])) ≡ true
    natural_sum mode n true = natural_sp mode
    natural_sum mode n false =
        natural_tree (record { code = code.Plus; mode = mode; number = pos 0; name = [] }) (reg_of mode stack_pointer ∷ const_of n ∷ []) refl
        (ap (λ b. b && (all_natural (const_of n) && true)) (natural_sp mode) ∙
        ap (λ b. b && true) (natural_tree (record { code = code.ConstInt; mode = Void; number = n; name = [] }) [] refl refl))

    natural_place : (mode : Mode) (reg : ℕ) (home : Home) → home_of homes reg ≡ home → is_natural code.Reg (pos reg) ≡ true →
        all_natural (place_by layout mode reg home) ≡ true
    natural_place mode reg (Hard hard) is natural =
        natural_tree (record { code = code.Reg; mode = mode; number = pos hard; name = [] }) [] (homes_natural reg hard is natural) refl
    natural_place mode reg Slot is natural =
        natural_tree (record { code = code.Mem; mode = mode; number = pos 0; name = [] }) (slot_address layout reg ∷ []) refl
        (ap (λ b. b && true) (natural_sum DI (int_wrap w64 (pos (slot_offset layout reg))) (int_eq (int_wrap w64 (pos (slot_offset layout reg))) (pos 0))))

    placed_natural : (c : Code) (n : ℤ) (reg : ℕ) → register_numbered c n ≡ Some reg → is_natural c n ≡ true → is_natural code.Reg (pos reg) ≡ true
    placed_natural code.Reg (pos k) reg is natural = let same : k ≡ reg = cc in ap (λ k. is_natural code.Reg (pos k)) (sym same) ∙ natural
    placed_natural code.Reg (negsuc k) reg is natural = absurd (let no : ⊥ = cc in no)
    placed_natural _ n reg is natural = absurd (let no : ⊥ = cc in no)

    at_natural : (c : Code) (x : Rtx) (kids : List Rtx) (reg : ℕ) → kids_of x ≡ kids → all_natural x ≡ true → register_by c x kids ≡ Some reg →
        is_natural code.Reg (pos reg) ≡ true
    at_natural code.Subreg x (inner ∷ []) reg are natural has =
        placed_natural (head_of inner).code (head_of inner).number reg has
        (natural_here inner ((and_parts (all_natural inner) true (ap (list_all all_natural) (sym are) ∙ natural_kids x natural)).0))
    at_natural code.Subreg x [] reg are natural has = placed_natural (head_of x).code (head_of x).number reg has (natural_here x natural)
    at_natural code.Subreg x (a ∷ b ∷ kids) reg are natural has = placed_natural (head_of x).code (head_of x).number reg has (natural_here x natural)
    at_natural _ x kids reg are natural has = placed_natural (head_of x).code (head_of x).number reg has (natural_here x natural)

    abbrev IsNatural : Rtx → Type 0
    IsNatural x = all_natural x ≡ true → all_natural (hm x) ≡ true

    each_natural : (xs : List Rtx) → AllByRecursion IsNatural xs → list_all all_natural xs ≡ true → list_all all_natural (map hm xs) ≡ true
    each_natural [] each natural = refl
    each_natural (x ∷ xs) each natural =
        let n = and_parts (all_natural x) _ natural in
        ap (λ b. b && list_all all_natural (map hm xs)) (each.0 n.0) ∙ each_natural xs each.1 n.1

    natural_step' : (x : Rtx) → AllByRecursion IsNatural (kids_of x) → IsNatural x
    natural_step' x each natural = by (register_at x) refl
      where
        by : (o : Option ℕ) → register_at x ≡ o → all_natural (hm x) ≡ true
        by None none = ap all_natural (homed_over homes layout x none) ∙
            natural_tree (head_of x) (map hm (kids_of x)) (natural_here x natural) (each_natural (kids_of x) each (natural_kids x natural))
        by (Some reg) has = ap all_natural (homed_register homes layout x reg has) ∙
            natural_place (head_of x).mode reg (home_of homes reg) refl (at_natural (head_of x).code x (kids_of x) reg refl natural has)

    -- natural numbers stay natural
    pub homed_natural : (x : Rtx) → all_natural x ≡ true → all_natural (hm x) ≡ true
    homed_natural = induction IsNatural natural_step'
