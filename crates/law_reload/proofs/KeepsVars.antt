-- An instruction that can be reloaded changes the address past the locals nowhere, at no depth.
use Rattle.std.proofs.Common.{◌≡◌, ℕ, ◌&&◌, ◌||◌, not, inl, inr, Bool, true, false, List, [], ◌∷◌, refl, ◌∙◌}
use Rattle.std.specs.List.{AllByRecursion, list_all}
use Rattle.std.specs.Prelude.{nat_le}
use Rattle.std.proofs.lemmas.Bool.{false≢true, and_parts, or_cases}
use Rattle.rtx_tree.specs.Tree.{head_of, kids_of}
use Rattle.rtx_tree.specs.declared.class.Class.{Class}
use Rattle.rtx_tree.specs.declared.class.Class.TheVariants as class
use Rattle.rtx_tree.specs.declared.code.Mode.{Mode}
use Rattle.rtx_tree.specs.declared.code.Mode.TheVariants.{DI}
use Rattle.rtx_tree.specs.declared.tree.Rtx.{Rtx}
use Rattle.rtl_func.specs.Effects.{changed_by, changed_register, is_stack_register}
use Rattle.rtx_tree.specs.Code.{is_place_class, is_value_class, mode_bits}
use Rattle.rtl_func.specs.Shapes.{class_at, mode_at, number_at, has_mode, is_value, is_constant, is_constant_class, is_operand, is_some_operand, is_moded, is_true_register, is_call_class, is_counter_class, is_jump_source_class, is_comparison_class, is_label_class, is_memory_class, is_scratch_class, is_called, is_choice, are_compared, is_bare, fits_one, fits_two, fits_three, fits_row, is_shaped}
use Rattle.rtl_func.proofs.AllPass.{all_pass, pass_out, itself, within}
use Rattle.law_homes.proofs.Trees.{tree_induction}

-- a tree sets or clobbers something else
abbrev pub leaves_vars : Rtx → Bool
leaves_vars x = not (is_stack_register (changed_register x))

-- ---- what sets and clobbers nothing

abbrev pub is_still : Class → Bool
is_still class.Setting = false
is_still class.Clobber = false
is_still class.Parallel = false
is_still _ = true

value_still : (k : Class) → is_value_class k ≡ true → is_still k ≡ true
value_still class.Setting is = absurd (false≢true is)
value_still class.Clobber is = absurd (false≢true is)
value_still class.Parallel is = absurd (false≢true is)
value_still _ is = refl

constant_still : (k : Class) → is_constant_class k ≡ true → is_still k ≡ true
constant_still class.Constant is = refl
constant_still _ is = absurd (false≢true is)

register_still : (k : Class) (n : ℕ) → is_true_register k n ≡ true → is_still k ≡ true
register_still class.Register n is = refl
register_still _ n is = absurd (false≢true is)

memory_still : (k : Class) → is_memory_class k ≡ true → is_still k ≡ true
memory_still class.Memory is = refl
memory_still _ is = absurd (false≢true is)

pub place_still : (k : Class) → is_place_class k ≡ true → is_still k ≡ true
place_still class.Register is = refl
place_still class.Memory is = refl
place_still class.Lowpart is = refl
place_still _ is = absurd (false≢true is)

pub scratch_still : (k : Class) → is_scratch_class k ≡ true → is_still k ≡ true
scratch_still class.Scratch is = refl
scratch_still _ is = absurd (false≢true is)

pub counter_still : (k : Class) → is_counter_class k ≡ true → is_still k ≡ true
counter_still class.Counter is = refl
counter_still _ is = absurd (false≢true is)

pub source_still : (k : Class) → is_jump_source_class k ≡ true → is_still k ≡ true
source_still class.Label is = refl
source_still class.Branch is = refl
source_still _ is = absurd (false≢true is)

pub call_still : (k : Class) → is_call_class k ≡ true → is_still k ≡ true
call_still class.Call is = refl
call_still _ is = absurd (false≢true is)

comparison_still : (k : Class) → is_comparison_class k ≡ true → is_still k ≡ true
comparison_still class.Comparison is = refl
comparison_still _ is = absurd (false≢true is)

label_still : (k : Class) → is_label_class k ≡ true → is_still k ≡ true
label_still class.Label is = refl
label_still _ is = absurd (false≢true is)

abbrev pub still_at : Rtx → Bool
still_at x = is_still (class_at x)

pub operand_still : (mode : Mode) (x : Rtx) → is_operand mode x ≡ true → still_at x ≡ true
operand_still mode x is = value_still (class_at x) (and_parts (is_value x) _ is).0

some_still : (x : Rtx) → is_some_operand x ≡ true → still_at x ≡ true
some_still x is = value_still (class_at x) (and_parts (is_value x) _ is).0

moded_still : (x : Rtx) → is_moded x ≡ true → still_at x ≡ true
moded_still x is = value_still (class_at x) (and_parts (is_value x) _ is).0

pub both : (a b : Bool) → a ≡ true → b ≡ true → a && b ≡ true
both true b is more = more
both false b is more = is

pub pair_still : (a b : Rtx) → still_at a ≡ true → still_at b ≡ true →
    list_all still_at (a ∷ b ∷ []) ≡ true
pair_still a b is more = both (still_at a) _ is (both (still_at b) true more refl)

one_still : (k : Class) (mode : Mode) (a : Rtx) → is_still k ≡ true → fits_one k mode a ≡ true →
    still_at a ≡ true
one_still class.Memory mode a still fits = operand_still DI a (and_parts (has_mode mode) _ fits).1
one_still class.Lowpart mode a still fits = register_still (class_at a) (number_at a)
    (and_parts (is_true_register (class_at a) (number_at a)) _ fits).0
one_still class.Unary mode a still fits = operand_still mode a (and_parts (has_mode mode) _ fits).1
one_still class.Extension mode a still fits = value_still (class_at a)
    (and_parts (is_value a) _ fits).0
one_still class.Truncation mode a still fits = value_still (class_at a)
    (and_parts (is_value a) _ fits).0
one_still class.Use mode a still fits = value_still (class_at a)
    (and_parts (not (has_mode mode)) (is_value a) fits).1
one_still class.Label mode a still fits = constant_still (class_at a)
    (and_parts (not (has_mode mode)) (is_constant a) fits).1
one_still class.Clobber mode a still fits = absurd (false≢true still)
one_still _ mode a still fits = absurd (false≢true fits)

compared_still : (a b : Rtx) → are_compared a b ≡ true → list_all still_at (a ∷ b ∷ []) ≡ true
compared_still a b is = elim (or_cases (is_moded a && is_operand (mode_at a) b)
    (is_constant a && is_moded b) is) [
      | inl here ↦ let parts = and_parts (is_moded a) (is_operand (mode_at a) b) here in
          pair_still a b (moded_still a parts.0) (operand_still (mode_at a) b parts.1)
      | inr there ↦ let parts = and_parts (is_constant a) (is_moded b) there in
          pair_still a b (constant_still (class_at a) parts.0) (moded_still b parts.1)
    ]

two_still : (k : Class) (mode : Mode) (a b : Rtx) → is_still k ≡ true → fits_two k mode a b ≡ true →
    list_all still_at (a ∷ b ∷ []) ≡ true
two_still class.Binary mode a b still fits =
    let parts = and_parts (is_operand mode a) (is_operand mode b)
    (and_parts (has_mode mode) _ fits).1 in
    pair_still a b (operand_still mode a parts.0) (operand_still mode b parts.1)
two_still class.Shift mode a b still fits =
    let parts = and_parts (is_operand mode a) (is_some_operand b)
    (and_parts (has_mode mode) _ fits).1 in
    pair_still a b (operand_still mode a parts.0) (some_still b parts.1)
two_still class.Comparison mode a b still fits =
    compared_still a b (and_parts (not (has_mode mode) || nat_le 32 (mode_bits mode))
    (are_compared a b) fits).1
two_still class.Call mode a b still fits =
    let parts = and_parts (is_memory_class (class_at a)) (is_constant b)
    (and_parts (not (has_mode mode)) (is_called a b) fits).1 in
    pair_still a b (memory_still (class_at a) parts.0) (constant_still (class_at b) parts.1)
two_still class.Setting mode a b still fits = absurd (false≢true still)
two_still _ mode a b still fits = absurd (false≢true fits)

three_still : (k : Class) (mode : Mode) (a b c : Rtx) → fits_three k mode a b c ≡ true →
    list_all still_at (a ∷ b ∷ c ∷ []) ≡ true
three_still class.Branch mode a b c fits =
    let parts = and_parts (is_comparison_class (class_at a)) _
    (and_parts (not (has_mode mode)) (is_choice a b c) fits).1 in
    let rest = and_parts (is_label_class (class_at b)) (is_counter_class (class_at c)) parts.1 in
    both (still_at a) _ (comparison_still (class_at a) parts.0)
    (pair_still b c (label_still (class_at b) rest.0) (counter_still (class_at c) rest.1))
three_still _ mode a b c fits = absurd (false≢true fits)

-- so do its parts
pub kids_still : (k : Class) (mode : Mode) (n : ℕ) (kids : List Rtx) → is_still k ≡ true →
    fits_row k mode n kids ≡ true → list_all still_at kids ≡ true
kids_still class.Parallel mode n kids still fits = absurd (false≢true still)
kids_still _ mode n [] still fits = refl
kids_still k mode n (a ∷ []) still fits = both (still_at a) true
    (one_still k mode a still (by k still fits)) refl
  where
    by : (k : Class) → is_still k ≡ true → fits_row k mode n (a ∷ []) ≡ true →
        fits_one k mode a ≡ true
    by class.Parallel still fits = absurd (false≢true still)
    by _ still fits = fits
kids_still k mode n (a ∷ b ∷ []) still fits = two_still k mode a b still (by k still fits)
  where
    by : (k : Class) → is_still k ≡ true → fits_row k mode n (a ∷ b ∷ []) ≡ true →
        fits_two k mode a b ≡ true
    by class.Parallel still fits = absurd (false≢true still)
    by _ still fits = fits
kids_still k mode n (a ∷ b ∷ c ∷ []) still fits = three_still k mode a b c (by k still fits)
  where
    by : (k : Class) → is_still k ≡ true → fits_row k mode n (a ∷ b ∷ c ∷ []) ≡ true →
        fits_three k mode a b c ≡ true
    by class.Parallel still fits = absurd (false≢true still)
    by _ still fits = fits
kids_still k mode n (a ∷ b ∷ c ∷ d ∷ kids) still fits = absurd (by k still fits)
  where
    by : (k : Class) → is_still k ≡ true → fits_row k mode n (a ∷ b ∷ c ∷ d ∷ kids) ≡ true → ⊥
    by class.Parallel still fits = false≢true still
    by _ still fits = false≢true fits

pub row_of : (x : Rtx) → all_pass is_shaped x ≡ true → fits_row (class_at x) (mode_at x)
    (number_at x) (kids_of x) ≡ true
row_of x shaped = (and_parts (is_bare (class_at x) (number_at x) (head_of x).name) _
    (itself is_shaped x shaped)).1

changes_none : (k : Class) (kids : List Rtx) → is_still k ≡ true →
    not (is_stack_register (changed_by k kids)) ≡ true
changes_none class.Setting kids still = absurd (false≢true still)
changes_none class.Clobber kids still = absurd (false≢true still)
changes_none _ kids still = refl

abbrev Leaves : Rtx → Type 0
Leaves x = all_pass is_shaped x ≡ true → still_at x ≡ true → all_pass leaves_vars x ≡ true

all_leave : (xs : List Rtx) → AllByRecursion Leaves xs → list_all (all_pass is_shaped) xs ≡ true →
    list_all still_at xs ≡ true →
    list_all (all_pass leaves_vars) xs ≡ true
all_leave [] all shaped still = refl
all_leave (x ∷ xs) all shaped still =
    let shapes = and_parts (all_pass is_shaped x) _ shaped in
    let stills = and_parts (still_at x) _ still in
    both (all_pass leaves_vars x) _ (all.0 shapes.0 stills.0) (all_leave xs all.1 shapes.1 stills.1)

still_step : (x : Rtx) → AllByRecursion Leaves (kids_of x) → Leaves x
still_step x all shaped still = pass_out leaves_vars x ∙
    both (leaves_vars x) _ (changes_none (class_at x) (kids_of x) still)
    (all_leave (kids_of x) all (within is_shaped x shaped)
    (kids_still (class_at x) (mode_at x) (number_at x) (kids_of x) still (row_of x shaped)))

pub still_leaves : (x : Rtx) → Leaves x
still_leaves = tree_induction Leaves still_step

pub all_still : (xs : List Rtx) → list_all (all_pass is_shaped) xs ≡ true →
    list_all still_at xs ≡ true → list_all (all_pass leaves_vars) xs ≡ true
all_still [] shaped still = refl
all_still (x ∷ xs) shaped still =
    let shapes = and_parts (all_pass is_shaped x) _ shaped in
    let stills = and_parts (still_at x) _ still in
    both (all_pass leaves_vars x) _ (still_leaves x shapes.0 stills.0)
    (all_still xs shapes.1 stills.1)
