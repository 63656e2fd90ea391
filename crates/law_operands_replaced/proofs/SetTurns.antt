-- A set in which new trees stand has the effect that it had, where what it changes stays.
use Rattle.std.proofs.Common.{◌≡◌, ◌≢◌, ℕ, ◌&&◌, ◌||◌, not, Bool, true, false, List, [], ◌∷◌, Option, Some, None, refl, sym, ap, subst, ◌∙◌}
use Rattle.std.specs.List.{list_all, list_any}
use Rattle.std.proofs.lemmas.Bool.{and_parts}
use Rattle.rtx_tree.proofs.Trees.{same_parts}
use Rattle.rtx_tree.specs.Code.{class_of_code, is_place_class}
use Rattle.rtx_tree.specs.Patterns.{is_pc, is_pc_code}
use Rattle.rtx_tree.specs.Tree.{RtxHead, head_of, kids_of, mentions_reg}
use Rattle.rtx_tree.specs.declared.class.Class.{Class}
use Rattle.rtx_tree.specs.declared.class.Class.TheVariants as class
use Rattle.rtx_tree.specs.declared.code.Code.{Code}
use Rattle.rtx_tree.specs.declared.code.Code.TheVariants as code
use Rattle.rtx_tree.specs.declared.code.Mode.{Mode}
use Rattle.rtx_tree.specs.declared.machine.SymbolAt.{SymbolAt}
use Rattle.rtx_tree.specs.declared.memories.MemByte.{MemByte}
use Rattle.rtx_tree.specs.declared.tree.Rtx.{Rtx}
use Rattle.rtl_func.specs.Kinds.{is_jump_by, is_jump_tree, is_plain_tree}
use Rattle.rtl_func.specs.Shapes.{class_at, mode_at, number_at, has_mode, is_place, is_operand, is_set_to, is_call_class, is_counter_class, is_jump_source_class, is_bare, fits_row, is_shaped}
use Rattle.rtl_func.proofs.AllPass.{all_pass, itself, within}
use Rattle.rtl_step.specs.Effect.{effect_of, set_effect, address_of, address_part}
use Rattle.rtl_step.specs.Regs.{Regs}
use Rattle.rtl_step.specs.Value.{width_of}
use Rattle.rtl_step.specs.declared.effect.Effect.{Effect}
use Rattle.sym_insns.specs.Shape.{all_natural}
use Rattle.law_frame.proofs.law_window_replaced.Known.{both_of, or_first, or_later}
use Rattle.law_frame.proofs.law_window_replaced.Trees.{natural_kids, mentions_kid}
use Rattle.law_operands_replaced.specs.Spare.{KnowsRest, NamesNoSpare}
use Rattle.law_operands_replaced.proofs.Addresses.{AddressToo, IsNewTree, address_becomes, becomes_reads}
use Rattle.law_operands_replaced.proofs.Elements.{register_stays, memory_stays, source_reads}
use Rattle.law_operands_replaced.proofs.NewTrees.{Becomes, AllBecome, none, over, is_lowpart, is_lowpart_class}
use Rattle.law_operands_replaced.proofs.PutParts.{IsOver}
use Rattle.law_operands_replaced.proofs.Readings.{IsOwn, operand_own, own_here}
use Rattle.law_operands_replaced.proofs.Turning.{IsSetting, SourceToo, setting_opened}
use Rattle.law_operands_replaced.proofs.JumpTrees.{set_row}
use Rattle.law_operands_replaced.proofs.Jumping.{row_of}

-- ---- trees

-- what is asked of a tree and of what it becomes
pub record Fit (x y : Rtx) : Type 0 where
  pub natural : all_natural x ≡ true
  pub quiet : NamesNoSpare x
  pub shaped : all_pass is_shaped y ≡ true
  pub plain : all_pass is_plain_tree y ≡ true

-- of the first two parts
pub fit_first : (x y a b : Rtx) (us vs : List Rtx) → kids_of x ≡ a ∷ us → kids_of y ≡ b ∷ vs → Fit x y → Fit a b
fit_first x y a b us vs are are' fit = record {
  natural = (both_of (all_natural a) _ (ap (list_all all_natural) (sym are) ∙ natural_kids x fit.natural)).0;
  quiet = λ reg is. fit.quiet reg (mentions_kid x reg (ap (list_any (mentions_reg reg)) are ∙ or_first (mentions_reg reg a) _ is));
  shaped = (both_of (all_pass is_shaped b) _ (ap (list_all (all_pass is_shaped)) (sym are') ∙ within is_shaped y fit.shaped)).0;
  plain = (both_of (all_pass is_plain_tree b) _ (ap (list_all (all_pass is_plain_tree)) (sym are') ∙ within is_plain_tree y fit.plain)).0;
}

pub fit_second : (x y a b c d : Rtx) (us vs : List Rtx) → kids_of x ≡ a ∷ c ∷ us → kids_of y ≡ b ∷ d ∷ vs → Fit x y → Fit c d
fit_second x y a b c d us vs are are' fit = record {
  natural = (both_of (all_natural c) _ (both_of (all_natural a) _ (ap (list_all all_natural) (sym are) ∙ natural_kids x fit.natural)).1).0;
  quiet = λ reg is. fit.quiet reg (mentions_kid x reg (ap (list_any (mentions_reg reg)) are ∙ or_later (mentions_reg reg a) _ (or_first (mentions_reg reg c) _ is)));
  shaped = (both_of (all_pass is_shaped d) _
      (both_of (all_pass is_shaped b) _ (ap (list_all (all_pass is_shaped)) (sym are') ∙ within is_shaped y fit.shaped)).1).0;
  plain = (both_of (all_pass is_plain_tree d) _
      (both_of (all_pass is_plain_tree b) _ (ap (list_all (all_pass is_plain_tree)) (sym are') ∙ within is_plain_tree y fit.plain)).1).0;
}

pub untrue : (b : Bool) → not b ≡ true → b ≡ false
untrue true is = absurd (let no : ⊥ = cc in no)
untrue false is = refl

no_or : (a b : Bool) → not (a || b) ≡ true → (a ≡ false) × (b ≡ false)
no_or true b is = absurd (let no : ⊥ = cc in no)
no_or false b is = (refl, untrue b is)

counter_pc : (c : Code) → is_counter_class (class_of_code c) ≡ true → is_pc_code c ≡ true
counter_pc code.Pc is = refl
counter_pc _ is = absurd (let no : ⊥ = cc in no)

set_jump : (y t : Rtx) (kids : List Rtx) → (head_of y).code ≡ code.Set → kids_of y ≡ t ∷ kids → is_jump_tree y ≡ is_pc t
set_jump y t kids is are = ap (λ c. is_jump_by (class_of_code c) (kids_of y)) is ∙ ap (is_jump_by class.Setting) are

-- a plain set is one of a place to a value of its mode
pub record IsPlainSet (t s : Rtx) : Type 0 where
  pub place : is_place t ≡ true
  pub value : is_operand (mode_at t) s ≡ true

plain_by : (p v k c j : Bool) → k ≡ false → c ≡ false → (p && (v || k)) || (c && j) ≡ true → (p ≡ true) × (v ≡ true)
plain_by true true k c j absent absent' fits = (refl, refl)
plain_by true false k c j absent absent' fits =
    absurd (let b : false ≡ true = sym (ap (λ k. k || (c && j)) absent ∙ ap (λ c. c && j) absent') ∙ fits in let no : ⊥ = cc in no)
plain_by false v k c j absent absent' fits = absurd (let a : false ≡ true = sym (ap (λ c. c && j) absent') ∙ fits in let no : ⊥ = cc in no)

pub plain_set : (y t s : Rtx) → IsSetting y t s → all_pass is_shaped y ≡ true → all_pass is_plain_tree y ≡ true → IsPlainSet t s
plain_set y t s is shaped plain =
    let row = ap (λ c. fits_row (class_of_code c) (mode_at y) (number_at y) (t ∷ s ∷ [])) (sym is.code_is) ∙
    ap (fits_row (class_at y) (mode_at y) (number_at y)) (sym is.parts) ∙ row_of y shaped in
    let set_to = set_row code.Set (mode_at y) (number_at y) t s refl row in
    let no_jump : is_pc t ≡ false = sym (set_jump y t (s ∷ []) is.code_is is.parts) ∙
    (no_or (is_jump_tree y) (is_call_class (class_at y)) (itself is_plain_tree y plain)).0 in
    let kids = ap (list_all (all_pass is_plain_tree)) (sym is.parts) ∙ within is_plain_tree y plain in
    let plain_s : all_pass is_plain_tree s ≡ true = (both_of (all_pass is_plain_tree s) _ (both_of (all_pass is_plain_tree t) _ kids).1).0 in
    let no_call : is_call_class (class_at s) ≡ false = (no_or (is_jump_tree s) (is_call_class (class_at s)) (itself is_plain_tree s plain_s)).1 in
    let no_counter : is_counter_class (class_at t) ≡ false = by (is_counter_class (class_at t)) refl no_jump in
    let both = plain_by (is_place t) (is_operand (mode_at t) s) (is_call_class (class_at s)) (is_counter_class (class_at t)) (is_jump_source_class (class_at s))
    no_call no_counter set_to in
    record { place = both.0; value = both.1 }
  where
    by : (b : Bool) → is_counter_class (class_at t) ≡ b → is_pc t ≡ false → b ≡ false
    by true is absent = absurd (let e : true ≡ false = sym (counter_pc (head_of t).code is) ∙ absent in let no : ⊥ = cc in no)
    by false is absent = refl

module _ (symbols : List SymbolAt) (regs other : Regs) (memory : List MemByte) (known : KnowsRest regs other) (New : Rtx → Rtx → Type 0)
    (news : (x y : Rtx) → New x y → IsNewTree symbols regs other memory x y) where
  -- the source of a set
  pub source_too : (t t' s s' : Rtx) → Becomes New s s' → Fit s s' → is_operand (mode_at t') s' ≡ true → width_of (mode_at t') ≡ width_of (mode_at t) →
      SourceToo symbols regs other memory t s s'
  source_too t t' s s' becomes fit fits same w wide =
      source_reads symbols regs other memory s s' w
      (operand_own (mode_at t') s' w (itself is_shaped s' fit.shaped) fits (subst (λ o. IsOwn o w) (sym (same ∙ wide)) (own_here w)))
      (becomes_reads symbols regs other memory known New news s s' becomes fit.natural fit.quiet fit.shaped)

  -- ---- what is changed

  -- a place that stays: the same register, or memory at an address with the same value
  pub data TargetToo (t t' : Rtx) : Type 0 where
    register_same : address_of t ≡ None → t' ≡ t → TargetToo t t'
    memory_too : AddressToo symbols regs other memory t t' → TargetToo t t'

  mode_too : (t t' : Rtx) → TargetToo t t' → width_of (mode_at t') ≡ width_of (mode_at t)
  mode_too t t' (register_same absent alike) = ap (λ t. width_of (mode_at t)) alike
  mode_too t t' (memory_too address) = address.mode_is

  -- the set has the same effect
  pub set_stays : (x y t t' s s' : Rtx) → IsSetting x t s → IsSetting y t' s' → TargetToo t t' → Becomes New s s' → Fit s s' → is_operand (mode_at t') s' ≡ true →
      (e : Effect) → effect_of symbols regs memory x ≡ Some e → effect_of symbols other memory y ≡ Some e
  set_stays x y t t' s s' is is' (register_same absent alike) becomes fit fits e at =
      setting_opened symbols regs other memory other y t' s' is' ∙ ap (λ t. set_effect symbols other memory t s') alike ∙
      register_stays symbols regs other memory t s s' absent
      (source_too t t' s s' becomes fit fits (ap (λ t. width_of (mode_at t)) alike)) e
      (sym (setting_opened symbols regs other memory regs x t s is) ∙ at)
  set_stays x y t t' s s' is is' (memory_too a) becomes fit fits e at =
      setting_opened symbols regs other memory other y t' s' is' ∙
      memory_stays symbols regs other memory t t' s s' a.first a.second a.first_is a.second_is a.mode_is a.value
      (source_too t t' s s' becomes fit fits a.mode_is) e
      (sym (setting_opened symbols regs other memory regs x t s is) ∙ at)

  no_address : (c : Code) (kids : List Rtx) → is_place_class (class_of_code c) ≡ true → class_of_code c ≡ class.Memory → (c ≡ code.Mem)
  no_address code.Mem kids is memory = refl
  no_address _ kids is memory = absurd (let no : ⊥ = cc in no)

  all_none : (xs : List Rtx) → AllBecome New xs [] → xs ≡ []
  all_none _ none = refl

  leaf_by : (k : Class) (mode : Mode) (number : ℕ) (kids : List Rtx) → k ≡ class.Register → fits_row k mode number kids ≡ true → kids ≡ []
  leaf_by class.Register mode number [] is fits = refl
  leaf_by class.Register mode number (a ∷ []) is fits = absurd (let no : ⊥ = cc in no)
  leaf_by class.Register mode number (a ∷ b ∷ []) is fits = absurd (let no : ⊥ = cc in no)
  leaf_by class.Register mode number (a ∷ b ∷ c ∷ []) is fits = absurd (let no : ⊥ = cc in no)
  leaf_by class.Register mode number (a ∷ b ∷ c ∷ d ∷ kids) is fits = absurd (let no : ⊥ = cc in no)
  leaf_by _ mode number kids is fits = absurd (let no : ⊥ = cc in no)

  register_no_address : (c : Code) (kids : List Rtx) → class_of_code c ≡ class.Register → address_part c kids ≡ None
  register_no_address code.Mem kids is = absurd (let no : ⊥ = cc in no)
  register_no_address _ kids is = refl

  target_by : (k : Class) (t t' : Rtx) → class_at t' ≡ k → is_place_class k ≡ true → is_lowpart t ≡ false → IsOver New t t' → Fit t t' → TargetToo t t'
  target_by class.Register t t' is place low o fit =
      let nothing : kids_of t' ≡ [] = leaf_by (class_at t') (mode_at t') (number_at t') (kids_of t') is (row_of t' fit.shaped) in
      let was : kids_of t ≡ [] = all_none (kids_of t) (subst (AllBecome New (kids_of t)) nothing o.parts) in
      register_same (register_no_address (head_of t).code (kids_of t) (ap (λ (h : RtxHead). class_of_code h.code) (sym o.head) ∙ is))
      (same_parts t' t o.head (nothing ∙ sym was))
  target_by class.Memory t t' is place low o fit =
      memory_too (address_becomes symbols regs other memory known New news t t' (over t t' o.head low o.parts) fit.natural fit.quiet fit.shaped is)
  target_by class.Lowpart t t' is place low o fit =
      absurd (let e : is_lowpart t ≡ true = ap (λ (h : RtxHead). is_lowpart_class (class_of_code h.code)) (sym o.head) ∙ ap is_lowpart_class is in
      let no : true ≡ false = sym e ∙ low in let never : ⊥ = cc in never)
  target_by _ t t' is place low o fit = absurd (let no : ⊥ = cc in no)

  -- a place that has kept its head
  pub target_over : (t t' : Rtx) → is_place t' ≡ true → is_lowpart t ≡ false → IsOver New t t' → Fit t t' → TargetToo t t'
  target_over t t' place low o fit = target_by (class_at t') t t' refl place low o fit
