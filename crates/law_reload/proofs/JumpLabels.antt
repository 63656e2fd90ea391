-- The labels of a jump within the table of codes are told by constants.
use Rattle.std.proofs.Common.{◌≡◌, ℕ, ◌&&◌, ◌||◌, not, Bool, true, List, [], ◌∷◌, refl, sym, ap, ◌∙◌}
use Rattle.std.specs.List.{list_all}
use Rattle.std.specs.Prelude.{ℤ}
use Rattle.std.proofs.lemmas.Bool.{false≢true, and_parts}
use Rattle.rtx_tree.specs.Code.{class_of_code, is_place_class}
use Rattle.rtx_tree.specs.Patterns.{is_pc_code}
use Rattle.rtx_tree.specs.Tree.{head_of, kids_of}
use Rattle.rtx_tree.specs.declared.class.Class.{Class}
use Rattle.rtx_tree.specs.declared.class.Class.TheVariants as class
use Rattle.rtx_tree.specs.declared.code.Code.{Code}
use Rattle.rtx_tree.specs.declared.code.Code.TheVariants as code
use Rattle.rtx_tree.specs.declared.code.Mode.{Mode}
use Rattle.rtx_tree.specs.declared.tree.Rtx.{Rtx}
use Rattle.md_operand.specs.Addresses as address
use Rattle.md_operand.specs.Addresses.{is_any, is_constant_at}
use Rattle.rtl_func.specs.Kinds.{is_jump_by, is_jump_tree}
use Rattle.rtl_func.specs.Shapes.{mode_at, number_at, class_at, has_mode, is_bare, is_constant, is_constant_class, is_counter_class, is_jump_source_class, is_comparison_class, is_label_class, is_choice, is_set_to, fits_row, is_shaped}
use Rattle.rtl_func.proofs.AllPass.{all_pass, itself, within}
use Rattle.law_homes.specs.Placed.{source_label, label_by, names_constant}
use Rattle.law_reload.proofs.KeepsVars.{row_of}

-- ---- a label

constant_by : (c : Code) (n : ℤ) → is_constant_class (class_of_code c) ≡ true →
    is_constant_at is_any c n ≡ true
constant_by code.ConstInt n is = refl
constant_by _ n is = absurd (false≢true is)

label_row : (mode : Mode) (n : ℕ) (kids : List Rtx) → fits_row class.Label mode n kids ≡ true →
    list_all (address.is_constant is_any) kids ≡ true
label_row mode n [] fits = refl
label_row mode n (uid ∷ []) fits =
    ap (λ b. b && true) (constant_by (head_of uid).code (head_of uid).number
    (and_parts (not (has_mode mode)) (is_constant uid) fits).1)
label_row mode n (a ∷ b ∷ []) fits = absurd (false≢true fits)
label_row mode n (a ∷ b ∷ c ∷ []) fits = absurd (false≢true fits)
label_row mode n (a ∷ b ∷ c ∷ d ∷ kids) fits = absurd (false≢true fits)

label_class : (k : Class) → is_label_class k ≡ true → k ≡ class.Label
label_class class.Label is = refl
label_class _ is = absurd (false≢true is)

label_constant : (x : Rtx) → is_label_class (class_at x) ≡ true → all_pass is_shaped x ≡ true →
    names_constant x ≡ true
label_constant x is shaped = label_row (mode_at x) (number_at x) (kids_of x)
    (sym (ap (λ k. fits_row k (mode_at x) (number_at x) (kids_of x)) (label_class (class_at x) is))
    ∙ row_of x shaped)

-- ---- what the pc is set to

-- by the code and the parts of it
source_constant : (c : Code) (kids : List Rtx) (x : Rtx) (mode : Mode) (n : ℕ) →
    (head_of x).code ≡ c → is_jump_source_class (class_of_code c) ≡ true →
    fits_row (class_of_code c) mode n kids ≡ true → list_all (all_pass is_shaped) kids ≡ true →
    all_pass is_shaped x ≡ true →
    names_constant (source_label c kids x) ≡ true
source_constant code.LabelRef kids x mode n is source fits parts shaped =
    label_constant x (ap (λ c. is_label_class (class_of_code c)) is) shaped
source_constant code.IfThenElse [] x mode n is source fits parts shaped = absurd (false≢true fits)
source_constant code.IfThenElse (a ∷ []) x mode n is source fits parts shaped =
    absurd (false≢true fits)
source_constant code.IfThenElse (a ∷ b ∷ []) x mode n is source fits parts shaped =
    absurd (false≢true fits)
source_constant code.IfThenElse (test ∷ label ∷ other ∷ []) x mode n is source fits parts shaped =
    let choice = (and_parts (not (has_mode mode)) (is_choice test label other) fits).1 in
    let labels = (and_parts (is_comparison_class (class_at test)) _ choice).1 in
    let rest = (and_parts (all_pass is_shaped test) _ parts).1 in
    label_constant label (and_parts (is_label_class (class_at label))
    (is_counter_class (class_at other)) labels).0
    (and_parts (all_pass is_shaped label) _ rest).0
source_constant code.IfThenElse (a ∷ b ∷ c ∷ d ∷ kids) x mode n is source fits parts shaped =
    absurd (false≢true fits)
source_constant _ kids x mode n is source fits parts shaped = absurd (false≢true source)

-- ---- a jump

counter_source : (c : Code) (a b : Bool) → is_pc_code c ≡ true →
    (is_place_class (class_of_code c) && a) || (is_counter_class (class_of_code c) && b) ≡ true →
    b ≡ true
counter_source code.Pc a b is fits = fits
counter_source _ a b is fits = absurd (false≢true is)

return_row : (mode : Mode) (n : ℕ) (kids : List Rtx) → fits_row class.Return mode n kids ≡ true →
    list_all (address.is_constant is_any) kids ≡ true
return_row mode n [] fits = refl
return_row mode n (a ∷ []) fits = absurd (false≢true fits)
return_row mode n (a ∷ b ∷ []) fits = absurd (false≢true fits)
return_row mode n (a ∷ b ∷ c ∷ []) fits = absurd (false≢true fits)
return_row mode n (a ∷ b ∷ c ∷ d ∷ kids) fits = absurd (false≢true fits)

jump_constant : (c : Code) (kids : List Rtx) (x : Rtx) (mode : Mode) (n : ℕ) → kids_of x ≡ kids →
    is_jump_by (class_of_code c) kids ≡ true →
    fits_row (class_of_code c) mode n kids ≡ true → list_all (all_pass is_shaped) kids ≡ true →
    names_constant (label_by c kids x) ≡ true
jump_constant code.Return kids x mode n are jumps fits parts =
    ap (list_all (address.is_constant is_any)) are ∙ return_row mode n kids fits
jump_constant code.Set [] x mode n are jumps fits parts = absurd (false≢true fits)
jump_constant code.Set (a ∷ []) x mode n are jumps fits parts = absurd (false≢true fits)
jump_constant code.Set (place ∷ source ∷ []) x mode n are jumps fits parts =
    let set = (and_parts (not (has_mode mode)) (is_set_to place source) fits).1 in
    let goes = counter_source (head_of place).code _ (is_jump_source_class (class_at source)) jumps
    set in
    let rest = (and_parts (all_pass is_shaped place) _ parts).1 in
    let shaped = (and_parts (all_pass is_shaped source) _ rest).0 in
    source_constant (head_of source).code (kids_of source) source (mode_at source)
    (number_at source) refl goes (row_of source shaped)
    (within is_shaped source shaped) shaped
jump_constant code.Set (a ∷ b ∷ c ∷ []) x mode n are jumps fits parts = absurd (false≢true fits)
jump_constant code.Set (a ∷ b ∷ c ∷ d ∷ kids) x mode n are jumps fits parts =
    absurd (false≢true fits)
jump_constant _ kids x mode n are jumps fits parts = absurd (false≢true jumps)

pub labels_constant : (x : Rtx) → is_jump_tree x ≡ true → all_pass is_shaped x ≡ true →
    names_constant (label_by (head_of x).code (kids_of x) x) ≡ true
labels_constant x jumps shaped =
    jump_constant (head_of x).code (kids_of x) x (mode_at x) (number_at x) refl jumps
    (row_of x shaped) (within is_shaped x shaped)
