-- The jumps of a function that keeps the rules lead to labels that stand.
use Rattle.std.proofs.Common.{◌≡◌, ℕ, true, ◌&&◌, not, List, [], ◌∷◌, Option, Some, None, ◌⊎◌, refl, sym, ap, subst, ◌∙◌, inl, inr}
use Rattle.std.specs.Prelude.{is_some, if◌then◌else◌}
use Rattle.std.specs.List.{list_all}
use Rattle.std.proofs.lemmas.Bool.{false≢true, and_parts, or_cases}
use Rattle.rtx_tree.specs.Code.{class_of_code, is_place_class}
use Rattle.rtx_tree.specs.declared.code.Code.{Code}
use Rattle.rtx_tree.specs.declared.code.Code.TheVariants.{Set, Return, Pc, LabelRef, IfThenElse}
use Rattle.rtx_tree.specs.declared.code.Mode.{Mode}
use Rattle.rtx_tree.specs.declared.function.Insn.{Insn}
use Rattle.rtx_tree.specs.declared.tree.Rtx.{Rtx, out-Rtx}
use Rattle.rtx_tree.specs.Patterns.{is_pc, is_pc_code, label_of, label_uid, place_of}
use Rattle.rtl_func.specs.Kinds.{is_jump_by, uid_stands, label_stands}
use Rattle.rtl_func.specs.Shapes.{class_at, mode_at, number_at, has_mode, is_place, is_bare, is_shaped, fits_row, is_set_to, is_choice, is_counter_class, is_label_class, is_comparison_class, is_jump_source_class}
use Rattle.rtl_func.specs.Successors.{goes_to, branches_to, source_flow, source_flow_by, jump_flow_by}
use Rattle.rtl_func.specs.declared.flow.Flow.TheVariants.{Stops}
use Rattle.rtl_func.proofs.AllPass.{all_pass, itself, within}
use Rattle.reg_uses.specs.Uses.{is_return_code}
use Rattle.law_rules.specs.Sorts.{Leads}
use Rattle.law_rules.specs.Sorts as sorts

-- ---- codes

pc_is_no_place : (c : Code) → is_pc_code c ≡ true → is_place_class (class_of_code c) ≡ true → ⊥
pc_is_no_place Pc is place = false≢true place
pc_is_no_place _ is place = false≢true is

counter_is_pc : (c : Code) → is_counter_class (class_of_code c) ≡ true → is_pc_code c ≡ true
counter_is_pc Pc is = refl
counter_is_pc _ is = absurd (false≢true is)

label_has_uid : (c : Code) (mode : Mode) (reg : ℕ) (parts : List Rtx) → is_label_class (class_of_code c) ≡ true →
    fits_row (class_of_code c) mode reg parts ≡ true →
    (uid : ℕ) × (label_uid c parts ≡ Some uid)
label_has_uid LabelRef mode reg [] is fits = absurd (false≢true fits)
label_has_uid LabelRef mode reg (u ∷ []) is fits = (_, refl)
label_has_uid LabelRef mode reg (u ∷ b ∷ []) is fits = absurd (false≢true fits)
label_has_uid LabelRef mode reg (u ∷ b ∷ c ∷ []) is fits = absurd (false≢true fits)
label_has_uid LabelRef mode reg (u ∷ b ∷ c ∷ d ∷ rest) is fits = absurd (false≢true fits)
label_has_uid _ mode reg parts is fits = absurd (false≢true is)

there : {A : Type 0} (o : Option A) → is_some o ≡ true → (x : A) × (o ≡ Some x)
there (Some x) is = (x, refl)
there None is = absurd (false≢true is)

-- ---- trees

fits_itself : (x : Rtx) → all_pass is_shaped x ≡ true → fits_row (class_at x) (mode_at x) (number_at x) (out-Rtx x).kids ≡ true
fits_itself x shaped = (and_parts (is_bare (class_at x) (number_at x) (out-Rtx x).name) _ (itself is_shaped x shaped)).1

module _ (insns : List Insn) where
  -- trees of which each has its parts and names labels that stand
  pub record AreGood (xs : List Rtx) : Type 0 where
    pub shaped : list_all (all_pass is_shaped) xs ≡ true
    pub stand : list_all (all_pass (label_stands insns)) xs ≡ true

  first_good : (x : Rtx) (xs : List Rtx) → AreGood (x ∷ xs) → (all_pass is_shaped x ≡ true) × (all_pass (label_stands insns) x ≡ true)
  first_good x xs good = ((and_parts (all_pass is_shaped x) _ good.shaped).0, (and_parts (all_pass (label_stands insns) x) _ good.stand).0)

  rest_good : (x : Rtx) (xs : List Rtx) → AreGood (x ∷ xs) → AreGood xs
  rest_good x xs good =
      record { shaped = (and_parts (all_pass is_shaped x) _ good.shaped).1; stand = (and_parts (all_pass (label_stands insns) x) _ good.stand).1 }

  -- a label stands
  label_place : (x : Rtx) → is_label_class (class_at x) ≡ true → all_pass is_shaped x ≡ true → all_pass (label_stands insns) x ≡ true →
      (uid : ℕ) × (place : ℕ) × (label_of x ≡ Some uid) × (place_of uid insns ≡ Some place)
  label_place x is shaped stand =
      let named = label_has_uid (out-Rtx x).code (mode_at x) (number_at x) (out-Rtx x).kids is (fits_itself x shaped) in
      let placed = there (place_of named.0 insns) (sym (ap (uid_stands insns) named.1) ∙ itself (label_stands insns) x stand) in
      (named.0, placed.0, named.1, placed.1)

  goes_on : (o : Option ℕ) (uid place : ℕ) → o ≡ Some uid → place_of uid insns ≡ Some place → Leads insns (goes_to o)
  goes_on o uid place is placed = subst (λ o. Leads insns (goes_to o)) (sym is) (sorts.goes uid place placed)

  branches_on : (o : Option ℕ) (uid place : ℕ) → o ≡ Some uid → place_of uid insns ≡ Some place → Leads insns (branches_to o)
  branches_on o uid place is placed = subst (λ o. Leads insns (branches_to o)) (sym is) (sorts.branches uid place placed)

  -- a choice between a label and the next instruction
  choice_leads : (test label other : Rtx) → is_choice test label other ≡ true → AreGood (test ∷ label ∷ other ∷ []) →
      Leads insns (if is_pc other then branches_to (label_of label) else Stops)
  choice_leads test label other choice good =
      let both = and_parts (is_label_class (class_at label)) (is_counter_class (class_at other)) (and_parts (is_comparison_class (class_at test)) _ choice).1 in
      let of_label = first_good label (other ∷ []) (rest_good test (label ∷ other ∷ []) good) in
      let placed = label_place label both.0 of_label.0 of_label.1 in
      subst (λ b. Leads insns (if b then branches_to (label_of label) else Stops)) (sym (counter_is_pc (out-Rtx other).code both.1))
      (branches_on (label_of label) placed.0 placed.1 placed.2 placed.3)

  -- what the pc is set to
  source_by : (c : Code) (mode : Mode) (reg : ℕ) (parts : List Rtx) (source : Rtx) → is_jump_source_class (class_of_code c) ≡ true →
      fits_row (class_of_code c) mode reg parts ≡ true → AreGood parts →
      (is_label_class (class_of_code c) ≡ true → Leads insns (goes_to (label_of source))) → Leads insns (source_flow_by c parts source)
  source_by LabelRef mode reg parts source is fits good alone = alone refl
  source_by IfThenElse mode reg [] source is fits good alone = absurd (false≢true fits)
  source_by IfThenElse mode reg (a ∷ []) source is fits good alone = absurd (false≢true fits)
  source_by IfThenElse mode reg (a ∷ b ∷ []) source is fits good alone = absurd (false≢true fits)
  source_by IfThenElse mode reg (test ∷ label ∷ other ∷ []) source is fits good alone =
      choice_leads test label other (and_parts (not (has_mode mode)) (is_choice test label other) fits).1 good
  source_by IfThenElse mode reg (a ∷ b ∷ c ∷ d ∷ rest) source is fits good alone = absurd (false≢true fits)
  source_by _ mode reg parts source is fits good alone = absurd (false≢true is)

  source_leads : (source : Rtx) → is_jump_source_class (class_at source) ≡ true → all_pass is_shaped source ≡ true →
      all_pass (label_stands insns) source ≡ true → Leads insns (source_flow source)
  source_leads source is shaped stand =
      source_by (out-Rtx source).code (mode_at source) (number_at source) (out-Rtx source).kids source is (fits_itself source shaped)
      (record { shaped = within is_shaped source shaped; stand = within (label_stands insns) source stand })
      (λ label. let placed = label_place source label shaped stand in goes_on (label_of source) placed.0 placed.1 placed.2 placed.3)

  -- a set of the pc
  pc_leads : (target source : Rtx) → is_pc target ≡ true → is_set_to target source ≡ true → AreGood (target ∷ source ∷ []) →
      Leads insns (if is_pc target then source_flow source else Stops)
  pc_leads target source pc set good =
      let of_source = first_good source [] (rest_good target (source ∷ []) good) in
      subst (λ b. Leads insns (if b then source_flow source else Stops)) (sym pc)
      (elim (or_cases (is_place target && _) (is_counter_class (class_at target) && is_jump_source_class (class_at source)) set) [
        | inl place ↦ absurd (pc_is_no_place (out-Rtx target).code pc (and_parts (is_place target) _ place).0)
        | inr counter ↦ source_leads source (and_parts (is_counter_class (class_at target)) (is_jump_source_class (class_at source)) counter).1 of_source.0 of_source.1
      ])

  jump_by : (c : Code) (mode : Mode) (reg : ℕ) (parts : List Rtx) → is_jump_by (class_of_code c) parts ≡ true →
      fits_row (class_of_code c) mode reg parts ≡ true → AreGood parts →
      (is_return_code c ≡ true) ⊎ Leads insns (jump_flow_by c parts)
  jump_by Return mode reg parts jump fits good = inl refl
  jump_by Set mode reg [] jump fits good = absurd (false≢true jump)
  jump_by Set mode reg (a ∷ []) jump fits good = absurd (false≢true fits)
  jump_by Set mode reg (target ∷ source ∷ []) jump fits good =
      inr (pc_leads target source jump (and_parts (not (has_mode mode)) (is_set_to target source) fits).1 good)
  jump_by Set mode reg (a ∷ b ∷ c ∷ []) jump fits good = absurd (false≢true fits)
  jump_by Set mode reg (a ∷ b ∷ c ∷ d ∷ rest) jump fits good = absurd (false≢true fits)
  jump_by _ mode reg parts jump fits good = absurd (false≢true jump)

  -- a jump is a return, or leads to a label
  pub jump_leads : (x : Rtx) → is_jump_by (class_at x) (out-Rtx x).kids ≡ true → all_pass is_shaped x ≡ true →
      all_pass (label_stands insns) x ≡ true →
      (is_return_code (out-Rtx x).code ≡ true) ⊎ Leads insns (jump_flow_by (out-Rtx x).code (out-Rtx x).kids)
  jump_leads x jump shaped stand =
      jump_by (out-Rtx x).code (mode_at x) (number_at x) (out-Rtx x).kids jump (fits_itself x shaped)
      (record { shaped = within is_shaped x shaped; stand = within (label_stands insns) x stand })
