-- With homes put in a tree within the table is within the table.
use Rattle.std.proofs.Common.{◌≡◌, ◌≢◌, ◌⊎◌, inl, inr, ℕ, ◌&&◌, ◌||◌, not, if◌then◌else◌, Bool, true, false, List, [], ◌∷◌, map, Option, Some, None, refl, sym, ap, subst, ◌∙◌}
use Rattle.std.proofs.lemmas.Bool.{and_parts}
use Rattle.std.specs.Int.{cast_unsigned, int_wrap, w64}
use Rattle.std.specs.List.{AllByRecursion, list_all}
use Rattle.std.specs.Ordering.{int_eq}
use Rattle.std.specs.Prelude.{ℤ, pos, negsuc}
use Rattle.law_operands_fetched.proofs.rtx_tree.Trees.{head_of-tree, kids_of-tree}
use Rattle.law_operands_fetched.specs.rtx_tree.Code.{class_of_code, is_value_class}
use Rattle.law_operands_fetched.specs.rtx_tree.Tree.{RtxHead, head_of, kids_of, tree_of, node_of, reg_of, const_of}
use Rattle.law_operands_fetched.specs.rtx_tree.declared.class.Class.TheVariants as class
use Rattle.law_operands_fetched.specs.rtx_tree.declared.code.Code.{Code}
use Rattle.law_operands_fetched.specs.rtx_tree.declared.code.Code.TheVariants as code
use Rattle.law_operands_fetched.specs.rtx_tree.declared.code.Mode.{Mode}
use Rattle.law_operands_fetched.specs.rtx_tree.declared.code.Mode.TheVariants.{Void, DI}
use Rattle.law_operands_fetched.specs.rtx_tree.declared.tree.Rtx.{Rtx, out-roll-Rtx}
use Rattle.law_operands_fetched.specs.rtx_tree.declared.tree.Rtx.TheOpen.{Rtx-F}
use Rattle.law_operands_fetched.specs.rtl_func.Shapes.{class_at, mode_at, number_at, has_mode, same_mode, is_constant_class, is_narrower, is_true_register, is_operand, is_register_number, fits_row, is_bare, is_shaped}
use Rattle.law_operands_fetched.proofs.rtl_func.AllPass as nodes
use Rattle.law_operands_fetched.proofs.rtl_func.AllPass.{all_pass, pass_out}
use Rattle.law_operands_fetched.specs.sym_insns.Shape.{all_natural}
use Rattle.law_operands_fetched.specs.assign.declared.home.Home.{Home}
use Rattle.law_operands_fetched.specs.assign.declared.home.Home.TheVariants.{Hard, Slot}
use Rattle.law_operands_fetched.specs.assign.declared.home.HomeOf.{HomeOf}
use Rattle.law_operands_fetched.specs.assign.declared.places.Layout.{Layout}
use Rattle.law_operands_fetched.specs.reload_homes.Homes.{home_of, homed, register_numbered, register_in, register_by, register_at, place_by, slot_address, slot_offset}
use Rattle.law_operands_fetched.proofs.reload_homes.Rewrites.{homed_register, homed_over}
use Rattle.law_operands_fetched.specs.rv_regs.Registers.{stack_pointer}
use Rattle.law_operands_fetched.proofs.law_frame.law_window_replaced.Trees.{natural_kids}
use Rattle.law_reload_moves.proofs.HomedShapes.{is_replaced_class, is_home_class, Alike, AllAlike, row_fits, none, next}
use Rattle.law_reload_moves.proofs.HomedTrees.{induction, low_placed, low_code}
use Rattle.law_operands_fetched.proofs.law_operands_replaced.NewTrees.{is_lowpart_class}

fits_head : RtxHead → List Rtx → Bool
fits_head h kids = is_bare (class_of_code h.code) (cast_unsigned w64 h.number) h.name && fits_row (class_of_code h.code) h.mode (cast_unsigned w64 h.number) kids

shaped_head : (h : RtxHead) (kids : List Rtx) → is_shaped (tree_of h kids) ≡ fits_head h kids
unfolding fits_head
shaped_head h kids = ap (λ (j : RtxHead). is_bare (class_of_code j.code) (cast_unsigned w64 j.number) j.name &&
    fits_row (class_of_code j.code) j.mode (cast_unsigned w64 j.number) (kids_of (tree_of h kids))) (head_of-tree h kids) ∙
    ap (λ ks. is_bare (class_of_code h.code) (cast_unsigned w64 h.number) h.name && fits_row (class_of_code h.code) h.mode (cast_unsigned w64 h.number) ks) (kids_of-tree h kids)

shaped_tree : (h : RtxHead) (kids : List Rtx) → fits_head h kids ≡ true → list_all (all_pass is_shaped) kids ≡ true → all_pass is_shaped (tree_of h kids) ≡ true
shaped_tree h kids fits all =
    pass_out is_shaped (tree_of h kids) ∙ ap (λ b. b && list_all (all_pass is_shaped) (kids_of (tree_of h kids))) (shaped_head h kids ∙ fits) ∙
    ap (list_all (all_pass is_shaped)) (kids_of-tree h kids) ∙ all

shaped_sp : all_pass is_shaped (reg_of DI stack_pointer) ≡ true
unfolding fits_head
shaped_sp = shaped_tree (record { code = code.Reg; mode = DI; number = pos stack_pointer; name = [] }) [] refl refl

shaped_const : (n : ℤ) → all_pass is_shaped (const_of n) ≡ true
unfolding fits_head
shaped_const n = shaped_tree (record { code = code.ConstInt; mode = Void; number = n; name = [] }) [] refl refl

operand_leaf : (h : RtxHead) (kids : List Rtx) →
    is_operand DI (tree_of h kids) ≡ (is_value_class (class_of_code h.code) && (is_constant_class (class_of_code h.code) || same_mode DI h.mode))
operand_leaf h kids = ap (λ (j : RtxHead). is_value_class (class_of_code j.code) && (is_constant_class (class_of_code j.code) || same_mode DI j.mode)) (head_of-tree h kids)

operand_sp : is_operand DI (reg_of DI stack_pointer) ≡ true
operand_sp = operand_leaf (record { code = code.Reg; mode = DI; number = pos stack_pointer; name = [] }) []

operand_const : (n : ℤ) → is_operand DI (const_of n) ≡ true
operand_const n = operand_leaf (record { code = code.ConstInt; mode = Void; number = n; name = [] }) []

fits_sum : (n : ℤ) → fits_head (record { code = code.Plus; mode = DI; number = pos 0; name = [] }) (reg_of DI stack_pointer ∷ const_of n ∷ []) ≡ true
unfolding fits_head
fits_sum n = ap (λ b. b && is_operand DI (const_of n)) operand_sp ∙ operand_const n

shaped_sum : (n : ℤ) (b : Bool) →
    (all_pass is_shaped (if b then reg_of DI stack_pointer else node_of code.Plus DI (reg_of DI stack_pointer ∷ const_of n ∷ [])) ≡ true)
    × (is_operand DI (if b then reg_of DI stack_pointer else node_of code.Plus DI (reg_of DI stack_pointer ∷ const_of n ∷ [])) ≡ true)
shaped_sum n true = (shaped_sp, operand_sp)
shaped_sum n false = (
  shaped_tree (record { code = code.Plus; mode = DI; number = pos 0; name = [] }) (reg_of DI stack_pointer ∷ const_of n ∷ []) (fits_sum n)
      (ap (λ b. b && (all_pass is_shaped (const_of n) && true)) shaped_sp ∙ ap (λ b. b && true) (shaped_const n)),
  operand_leaf (record { code = code.Plus; mode = DI; number = pos 0; name = [] }) (reg_of DI stack_pointer ∷ const_of n ∷ []),
)

module _ (homes : List HomeOf) (layout : Layout)
    (numbered : (reg hard : ℕ) → home_of homes reg ≡ Hard hard → is_register_number reg ≡ true → is_register_number hard ≡ true) where
  abbrev hm : Rtx → Rtx
  hm = homed homes layout

  shaped_place : (mode : Mode) (reg : ℕ) (home : Home) → home_of homes reg ≡ home → has_mode mode ≡ true → is_register_number reg ≡ true →
      all_pass is_shaped (place_by layout mode reg home) ≡ true
  unfolding fits_head
  shaped_place mode reg (Hard hard) is has number =
      shaped_tree (record { code = code.Reg; mode = mode; number = pos hard; name = [] }) []
      (ap (λ b. b && is_register_number hard) has ∙ numbered reg hard is number) refl
  shaped_place mode reg Slot is has number =
      let c : ℤ = int_wrap w64 (pos (slot_offset layout reg)) in
      let sum = shaped_sum c (int_eq c (pos 0)) in
      shaped_tree (record { code = code.Mem; mode = mode; number = pos 0; name = [] }) (slot_address layout reg ∷ [])
      (ap (λ b. b && is_operand DI (slot_address layout reg)) has ∙ sum.1) (ap (λ b. b && true) sum.0)

  -- a register with a mode and a number within the table
  pub record IsRegister (x : Rtx) (reg : ℕ) : Type 0 where
    pub has : has_mode (mode_at x) ≡ true
    pub number : is_register_number reg ≡ true
    pub replaced : is_replaced_class (class_at x) ≡ true

  register_row : (c : Code) (mode : Mode) (n : ℤ) (kids : List Rtx) (reg : ℕ) → register_numbered c n ≡ Some reg →
      fits_row (class_of_code c) mode (cast_unsigned w64 n) kids ≡ true → (has_mode mode ≡ true) × (is_register_number reg ≡ true)
  register_row code.Reg mode (pos k) [] reg is fits =
      let same : k ≡ reg = cc in
      let both = and_parts (has_mode mode) (is_register_number k) fits in (both.0, ap is_register_number (sym same) ∙ both.1)
  register_row code.Reg mode (pos k) (a ∷ []) reg is fits = absurd (let no : ⊥ = cc in no)
  register_row code.Reg mode (pos k) (a ∷ b ∷ []) reg is fits = absurd (let no : ⊥ = cc in no)
  register_row code.Reg mode (pos k) (a ∷ b ∷ c ∷ []) reg is fits = absurd (let no : ⊥ = cc in no)
  register_row code.Reg mode (pos k) (a ∷ b ∷ c ∷ d ∷ kids) reg is fits = absurd (let no : ⊥ = cc in no)
  register_row code.Reg mode (negsuc k) kids reg is fits = absurd (let no : ⊥ = cc in no)
  register_row _ mode n kids reg is fits = absurd (let no : ⊥ = cc in no)

  row_of : (x : Rtx) → is_shaped x ≡ true → fits_row (class_at x) (mode_at x) (number_at x) (kids_of x) ≡ true
  row_of x shaped = (and_parts (is_bare (class_at x) (number_at x) (head_of x).name) _ shaped).1

  numbered_code : (c : Code) (n : ℤ) (reg : ℕ) → register_numbered c n ≡ Some reg → c ≡ code.Reg
  numbered_code code.Reg n reg is = refl
  numbered_code _ n reg is = absurd (let no : ⊥ = cc in no)

  itself_register : (x : Rtx) (reg : ℕ) → register_in x ≡ Some reg → is_shaped x ≡ true → IsRegister x reg
  itself_register x reg is shaped =
      let both = register_row (head_of x).code (mode_at x) (head_of x).number (kids_of x) reg is (row_of x shaped) in
      record { has = both.0; number = both.1; replaced = ap (λ c. is_replaced_class (class_of_code c)) (numbered_code (head_of x).code (head_of x).number reg is) }

  narrower_has : (a b : Mode) → is_narrower a b ≡ true → has_mode a ≡ true
  narrower_has a b is = (and_parts (has_mode a) _ is).0

  part_row : (c : Code) (mode : Mode) (number : ℕ) (a : Rtx) → c ≡ code.Subreg → fits_row (class_of_code c) mode number (a ∷ []) ≡ true → has_mode mode ≡ true
  part_row code.Subreg mode number a is fits =
      narrower_has mode (mode_at a) (and_parts (is_true_register (class_at a) (number_at a)) (is_narrower mode (mode_at a)) fits).1
  part_row _ mode number a is fits = absurd (let no : ⊥ = cc in no)

  register_by_row : (c : Code) (x : Rtx) (kids : List Rtx) (reg : ℕ) → (head_of x).code ≡ c → kids_of x ≡ kids → register_by c x kids ≡ Some reg →
      all_pass is_shaped x ≡ true → IsRegister x reg
  register_by_row code.Subreg x (inner ∷ []) reg is are has shaped =
      let here = nodes.itself is_shaped x shaped in
      let inner_shaped : all_pass is_shaped inner ≡ true =
      (and_parts (all_pass is_shaped inner) true (sym (ap (list_all (all_pass is_shaped)) are) ∙ nodes.within is_shaped x shaped)).0 in
      record {
        has = part_row (head_of x).code (mode_at x) (number_at x) inner is (ap (fits_row (class_at x) (mode_at x) (number_at x)) (sym are) ∙ row_of x here);
        number = (itself_register inner reg has (nodes.itself is_shaped inner inner_shaped)).number;
        replaced = ap (λ c. is_replaced_class (class_of_code c)) is;
      }
  register_by_row code.Subreg x [] reg is are has shaped = itself_register x reg has (nodes.itself is_shaped x shaped)
  register_by_row code.Subreg x (a ∷ b ∷ kids) reg is are has shaped = itself_register x reg has (nodes.itself is_shaped x shaped)
  register_by_row _ x kids reg is are has shaped = itself_register x reg has (nodes.itself is_shaped x shaped)

  pub register_is : (x : Rtx) (reg : ℕ) → register_at x ≡ Some reg → all_pass is_shaped x ≡ true → IsRegister x reg
  register_is x reg has shaped = register_by_row (head_of x).code x (kids_of x) reg refl refl has shaped

  home_class : (mode : Mode) (reg : ℕ) (home : Home) → is_home_class (class_at (place_by layout mode reg home)) ≡ true
  home_class mode reg (Hard hard) = ap (λ (o : Rtx-F Rtx). is_home_class (class_of_code o.code)) (out-roll-Rtx _)
  home_class mode reg Slot = ap (λ (o : Rtx-F Rtx). is_home_class (class_of_code o.code)) (out-roll-Rtx _)

  mode_place : (mode : Mode) (reg : ℕ) (home : Home) → mode_at (place_by layout mode reg home) ≡ mode
  mode_place mode reg (Hard hard) = ap (λ (o : Rtx-F Rtx). o.mode) (out-roll-Rtx _)
  mode_place mode reg Slot = ap (λ (o : Rtx-F Rtx). o.mode) (out-roll-Rtx _)

  -- a tree has its mode with homes put in, and its class but for registers
  pub homed_alike : (x : Rtx) → all_pass is_shaped x ≡ true → Alike x (hm x)
  homed_alike x shaped = by (register_at x) refl
    where
      by : (o : Option ℕ) → register_at x ≡ o → Alike x (hm x)
      by None is =
          let tree = homed_over homes layout x is in record {
            mode = ap mode_at tree ∙ ap (λ (h : RtxHead). h.mode) (head_of-tree (head_of x) (map hm (kids_of x)));
            classes = inl (ap class_at tree ∙ ap (λ (h : RtxHead). class_of_code h.code) (head_of-tree (head_of x) (map hm (kids_of x))));
          }
      by (Some reg) is =
          let tree = homed_register homes layout x reg is in record {
            mode = ap mode_at tree ∙ mode_place (head_of x).mode reg (home_of homes reg);
            classes = inr ((register_is x reg is shaped).replaced, ap (λ y. is_home_class (class_at y)) tree ∙ home_class (head_of x).mode reg (home_of homes reg));
          }

  all_alike : (xs : List Rtx) → list_all (all_pass is_shaped) xs ≡ true → AllAlike xs (map hm xs)
  all_alike [] shaped = none
  all_alike (x ∷ xs) shaped =
      let both = and_parts (all_pass is_shaped x) _ shaped in next x (hm x) xs (map hm xs) (homed_alike x both.0) (all_alike xs both.1)

  abbrev IsShapedToo : Rtx → Type 0
  IsShapedToo x = all_pass is_shaped x ≡ true → all_natural x ≡ true → all_pass is_shaped (hm x) ≡ true

  all_shaped : (xs : List Rtx) → AllByRecursion IsShapedToo xs → list_all (all_pass is_shaped) xs ≡ true → list_all all_natural xs ≡ true →
      list_all (all_pass is_shaped) (map hm xs) ≡ true
  all_shaped [] each shaped natural = refl
  all_shaped (x ∷ xs) each shaped natural =
      let s = and_parts (all_pass is_shaped x) _ shaped in
      let n = and_parts (all_natural x) _ natural in
      ap (λ b. b && list_all (all_pass is_shaped) (map hm xs)) (each.0 s.0 n.0) ∙ all_shaped xs each.1 s.1 n.1

  shaped_step : (x : Rtx) → AllByRecursion IsShapedToo (kids_of x) → IsShapedToo x
  unfolding fits_head
  shaped_step x each shaped natural = by (register_at x) refl
    where
      not_low : register_at x ≡ None → (b : Bool) → is_lowpart_class (class_of_code (head_of x).code) ≡ b → b ≡ false
      not_low absent true is = absurd (low_placed homes layout x (low_code homes layout (head_of x).code is) (nodes.itself is_shaped x shaped) natural absent)
      not_low absent false is = refl

      by : (o : Option ℕ) → register_at x ≡ o → all_pass is_shaped (hm x) ≡ true
      by None is =
          let parts = and_parts (is_bare (class_at x) (number_at x) (head_of x).name) _ (nodes.itself is_shaped x shaped) in
          ap (all_pass is_shaped) (homed_over homes layout x is) ∙
          shaped_tree (head_of x) (map hm (kids_of x))
          (ap (λ b. b && fits_row (class_at x) (mode_at x) (number_at x) (map hm (kids_of x))) parts.0 ∙
          row_fits (class_at x) (mode_at x) (number_at x) (kids_of x) (map hm (kids_of x)) (not_low is (is_lowpart_class (class_of_code (head_of x).code)) refl)
          (all_alike (kids_of x) (nodes.within is_shaped x shaped)) parts.1)
          (all_shaped (kids_of x) each (nodes.within is_shaped x shaped) (natural_kids x natural))
      by (Some reg) is =
          let r = register_is x reg is shaped in
          ap (all_pass is_shaped) (homed_register homes layout x reg is) ∙ shaped_place (head_of x).mode reg (home_of homes reg) refl r.has r.number

  -- it is within the table
  pub homed_shaped : (x : Rtx) → all_pass is_shaped x ≡ true → all_natural x ≡ true → all_pass is_shaped (hm x) ≡ true
  homed_shaped = induction IsShapedToo shaped_step
