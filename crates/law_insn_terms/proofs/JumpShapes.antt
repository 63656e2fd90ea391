-- The shape of a jump that can be compared: it sets the pc to a label, or to one of a label and the next instruction by a comparison.
use Rattle.std.proofs.Common.{◌≡◌, ℕ, ◌&&◌, Bool, true, false, List, [], ◌∷◌, Some, refl, sym, ◌∙◌, ap, subst}
use Rattle.std.specs.List.{list_all, flat_map, AllByRecursion}
use Rattle.std.specs.Int.{cast_unsigned, w64}
use Rattle.std.proofs.lemmas.List.Folds.{list_all-append}
use Rattle.rtx_tree.specs.Code.{class_of_code, is_place_class}
use Rattle.rtx_tree.specs.Patterns.{is_pc, is_pc_code, label_of, label_uid}
use Rattle.rtx_tree.specs.declared.class.Class.{Class}
use Rattle.rtx_tree.specs.declared.class.Class.TheVariants as class
use Rattle.rtx_tree.specs.declared.code.Code.{Code}
use Rattle.rtx_tree.specs.declared.code.Code.TheVariants as code
use Rattle.rtx_tree.specs.declared.code.Mode.{Mode}
use Rattle.rtx_tree.specs.declared.tree.Rtx.{Rtx, out-Rtx}
use Rattle.rtl_func.specs.Kinds.{is_jump_by, is_jump_tree}
use Rattle.rtl_func.specs.Modes.{shapes_agree}
use Rattle.rtl_func.specs.Nodes.{nodes_of}
use Rattle.rtl_func.specs.Shapes.{class_at, mode_at, number_at, is_bare, is_effect, is_jump_source_class, is_counter_class, is_comparison_class, is_label_class, is_set_to, is_choice, fits_two, fits_row, is_shaped}
use Rattle.rtl_func.proofs.NodeLaws.{nodes_out}
use Rattle.reg_uses.specs.Uses.{is_return_code}
use Rattle.law_insn_terms.proofs.Bools.{both_of, other_of, none_of}

-- ---- the parts of a tree are shaped where it is

abbrev pub IsSound : Rtx → Type 0
IsSound x = list_all is_shaped (nodes_of x) ≡ true

sound_parts : (x : Rtx) → IsSound x → (is_shaped x && list_all is_shaped (flat_map nodes_of (out-Rtx x).kids)) ≡ true
sound_parts x sound = ap (list_all is_shaped) (sym (nodes_out x)) ∙ sound

pub sound_here : (x : Rtx) → IsSound x → is_shaped x ≡ true
sound_here x sound = (both_of _ _ (sound_parts x sound)).0

sound_each : (kids : List Rtx) → list_all is_shaped (flat_map nodes_of kids) ≡ true → AllByRecursion IsSound kids
sound_each [] all = tt
sound_each (k ∷ kids) all =
    let both = both_of _ _ (sym (list_all-append is_shaped (nodes_of k) (flat_map nodes_of kids)) ∙ all) in (both.0, sound_each kids both.1)

pub sound_kids : (x : Rtx) → IsSound x → AllByRecursion IsSound (out-Rtx x).kids
sound_kids x sound = sound_each (out-Rtx x).kids (both_of _ _ (sound_parts x sound)).1

pub sound_pattern : (x : Rtx) → shapes_agree x ≡ true → IsSound x
sound_pattern x agrees = (both_of (is_effect x) _ agrees).1

-- what its class asks of the parts
pub has_row : (x : Rtx) → IsSound x → fits_row (class_at x) (mode_at x) (number_at x) (out-Rtx x).kids ≡ true
has_row x sound = (both_of (is_bare (class_at x) (number_at x) (out-Rtx x).name) _ (sound_here x sound)).1

pub row_by : (x : Rtx) (c : Code) → IsSound x → (out-Rtx x).code ≡ c → fits_row (class_of_code c) (mode_at x) (number_at x) (out-Rtx x).kids ≡ true
row_by x c sound is = ap (λ c. fits_row (class_of_code c) (mode_at x) (number_at x) (out-Rtx x).kids) (sym is) ∙ has_row x sound

-- ---- the parts of a row

pub record TwoParts (parts : List Rtx) (fits : Rtx → Rtx → Bool) : Type 0 where
  pub first : Rtx
  pub second : Rtx
  pub parts_are : parts ≡ first ∷ second ∷ []
  pub they_fit : fits first second ≡ true

pub set_parts : (m : Mode) (reg : ℕ) (parts : List Rtx) → fits_row class.Setting m reg parts ≡ true → TwoParts parts (fits_two class.Setting m)
set_parts m reg [] fits = absurd (let no : ⊥ = cc in no)
set_parts m reg (a ∷ []) fits = absurd (let no : ⊥ = cc in no)
set_parts m reg (a ∷ b ∷ []) fits = record { first = a; second = b; parts_are = refl; they_fit = fits }
set_parts m reg (a ∷ b ∷ c ∷ []) fits = absurd (let no : ⊥ = cc in no)
set_parts m reg (a ∷ b ∷ c ∷ d ∷ parts) fits = absurd (let no : ⊥ = cc in no)

record OnePart (parts : List Rtx) : Type 0 where
  pub only : Rtx
  pub part_is : parts ≡ only ∷ []

label_parts : (m : Mode) (reg : ℕ) (parts : List Rtx) → fits_row class.Label m reg parts ≡ true → OnePart parts
label_parts m reg [] fits = absurd (let no : ⊥ = cc in no)
label_parts m reg (a ∷ []) fits = record { only = a; part_is = refl }
label_parts m reg (a ∷ b ∷ []) fits = absurd (let no : ⊥ = cc in no)
label_parts m reg (a ∷ b ∷ c ∷ []) fits = absurd (let no : ⊥ = cc in no)
label_parts m reg (a ∷ b ∷ c ∷ d ∷ parts) fits = absurd (let no : ⊥ = cc in no)

record ThreeParts (parts : List Rtx) : Type 0 where
  pub test : Rtx
  pub label : Rtx
  pub other : Rtx
  pub parts_are : parts ≡ test ∷ label ∷ other ∷ []
  pub choice : is_choice test label other ≡ true

branch_parts : (m : Mode) (reg : ℕ) (parts : List Rtx) → fits_row class.Branch m reg parts ≡ true → ThreeParts parts
branch_parts m reg [] fits = absurd (let no : ⊥ = cc in no)
branch_parts m reg (a ∷ []) fits = absurd (let no : ⊥ = cc in no)
branch_parts m reg (a ∷ b ∷ []) fits = absurd (let no : ⊥ = cc in no)
branch_parts m reg (a ∷ b ∷ c ∷ []) fits = record { test = a; label = b; other = c; parts_are = refl; choice = (both_of _ _ fits).1 }
branch_parts m reg (a ∷ b ∷ c ∷ d ∷ parts) fits = absurd (let no : ⊥ = cc in no)

-- ---- the code of a class

setting_by : (c : Code) (parts : List Rtx) → is_jump_by (class_of_code c) parts ≡ true → is_return_code c ≡ false → c ≡ code.Set
setting_by code.Set parts is none = refl
setting_by code.Return parts is none = absurd (let no : ⊥ = cc in no)
setting_by _ parts is none = absurd (let no : ⊥ = cc in no)

pub pc_by : (c : Code) → is_pc_code c ≡ true → c ≡ code.Pc
pc_by code.Pc is = refl
pc_by _ is = absurd (let no : ⊥ = cc in no)

data JumpCode (c : Code) : Type 0 where
  label : c ≡ code.LabelRef → JumpCode c
  choice : c ≡ code.IfThenElse → JumpCode c

jump_code : (c : Code) → is_jump_source_class (class_of_code c) ≡ true → JumpCode c
jump_code code.LabelRef is = label refl
jump_code code.IfThenElse is = choice refl
jump_code _ is = absurd (let no : ⊥ = cc in no)

label_by : (c : Code) → is_label_class (class_of_code c) ≡ true → c ≡ code.LabelRef
label_by code.LabelRef is = refl
label_by _ is = absurd (let no : ⊥ = cc in no)

counter_by : (c : Code) → is_counter_class (class_of_code c) ≡ true → is_pc_code c ≡ true
counter_by code.Pc is = refl
counter_by _ is = absurd (let no : ⊥ = cc in no)

comparison_by : (k : Class) → is_comparison_class k ≡ true → k ≡ class.Comparison
comparison_by class.Comparison is = refl
comparison_by _ is = absurd (let no : ⊥ = cc in no)

-- ---- labels

pub record Labelled (x : Rtx) : Type 0 where
  pub uid : ℕ
  pub uid_is : label_of x ≡ Some uid

labelled : (x : Rtx) → IsSound x → (out-Rtx x).code ≡ code.LabelRef → Labelled x
labelled x sound is =
    let part = label_parts (mode_at x) (number_at x) (out-Rtx x).kids (row_by x code.LabelRef sound is) in
    record { uid = cast_unsigned w64 (out-Rtx part.only).number; uid_is = ap (λ c. label_uid c (out-Rtx x).kids) is ∙ ap (label_uid code.LabelRef) part.part_is }

-- ---- jumps

-- what the pc is set to: a label, or a choice by a comparison
pub data Leads (source : Rtx) : Type 0 where
  to_label : (out-Rtx source).code ≡ code.LabelRef → Labelled source → Leads source
  by_test : (test label other : Rtx) → (out-Rtx source).code ≡ code.IfThenElse → (out-Rtx source).kids ≡ test ∷ label ∷ other ∷ [] → class_at test ≡ class.Comparison →
      Labelled label → is_pc other ≡ true → Leads source

leads_by : (source : Rtx) → IsSound source → JumpCode (out-Rtx source).code → Leads source
leads_by source sound (label is) = to_label is (labelled source sound is)
leads_by source sound (choice is) =
    let parts = branch_parts (mode_at source) (number_at source) (out-Rtx source).kids (row_by source code.IfThenElse sound is) in
    let kids = subst (AllByRecursion IsSound) parts.parts_are (sound_kids source sound) in
    let test = both_of (is_comparison_class (class_at parts.test)) _ parts.choice in
    let rest = both_of (is_label_class (class_at parts.label)) _ test.1 in
    by_test parts.test parts.label parts.other is parts.parts_are (comparison_by (class_at parts.test) test.0)
    (labelled parts.label kids.1.0 (label_by (out-Rtx parts.label).code rest.0)) (counter_by (out-Rtx parts.other).code rest.1)

pub record IsJump (x : Rtx) : Type 0 where
  pub place : Rtx
  pub source : Rtx
  pub code_is : (out-Rtx x).code ≡ code.Set
  pub kids_are : (out-Rtx x).kids ≡ place ∷ source ∷ []
  pub pc_is : is_pc place ≡ true
  pub leads : Leads source

-- what is set where the place is the pc
pc_source : (c : Code) (place source : Rtx) → (out-Rtx place).code ≡ c → c ≡ code.Pc → is_set_to place source ≡ true → is_jump_source_class (class_at source) ≡ true
pc_source c place source is pc fits =
    let here : (out-Rtx place).code ≡ code.Pc = is ∙ pc in
    let none : is_place_class (class_at place) ≡ false = ap (λ c. is_place_class (class_of_code c)) here in
    (both_of (is_counter_class (class_at place)) _ (other_of _ _ fits (none_of _ _ none))).1

pub jump_shape : (x : Rtx) → shapes_agree x ≡ true → is_jump_tree x ≡ true → is_return_code (out-Rtx x).code ≡ false → IsJump x
jump_shape x agrees jump none =
    let sound = sound_pattern x agrees in
    let is : (out-Rtx x).code ≡ code.Set = setting_by (out-Rtx x).code (out-Rtx x).kids jump none in
    let parts = set_parts (mode_at x) (number_at x) (out-Rtx x).kids (row_by x code.Set sound is) in
    let kids = subst (AllByRecursion IsSound) parts.parts_are (sound_kids x sound) in
    let pc : is_pc parts.first ≡ true = sym (ap (λ c. is_jump_by (class_of_code c) (out-Rtx x).kids) is ∙ ap (is_jump_by class.Setting) parts.parts_are) ∙ jump in
    let source = pc_source (out-Rtx parts.first).code parts.first parts.second refl (pc_by (out-Rtx parts.first).code pc) (both_of _ _ parts.they_fit).1 in
    record {
      place = parts.first;
      source = parts.second;
      code_is = is;
      kids_are = parts.parts_are;
      pc_is = pc;
      leads = leads_by parts.second kids.1.0 (jump_code (out-Rtx parts.second).code source);
    }
