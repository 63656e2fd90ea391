-- A tree within the table is within the table with homes put in.
use Rattle.std.proofs.Common.{◌≡◌, ◌≢◌, ◌⊎◌, inl, inr, ℕ, ◌&&◌, ◌||◌, not, if◌then◌else◌, Bool, true, false, List, [], ◌∷◌, map, Option, Some, None, refl, sym, ap, subst, ◌∙◌}
use Rattle.std.proofs.lemmas.Bool.{and_parts}
use Rattle.std.specs.Int.{int_wrap, w64}
use Rattle.std.specs.List.{AllByRecursion, list_all}
use Rattle.std.specs.Ordering.{int_eq}
use Rattle.std.specs.Prelude.{ℤ, pos, nat_le}
use Rattle.law_operands_fetched.specs.rtx_tree.Code.{is_place_class, is_value_class, is_effect_class, mode_bits}
use Rattle.law_operands_fetched.specs.rtx_tree.declared.class.Class.{Class}
use Rattle.law_operands_fetched.specs.rtx_tree.declared.class.Class.TheVariants as class
use Rattle.law_operands_fetched.specs.rtx_tree.declared.code.Code.TheVariants as code
use Rattle.law_operands_fetched.specs.rtx_tree.declared.code.Mode.{Mode}
use Rattle.law_operands_fetched.specs.rtx_tree.declared.code.Mode.TheVariants.{DI}
use Rattle.law_operands_fetched.specs.rtx_tree.declared.tree.Rtx.{Rtx}
use Rattle.law_operands_fetched.specs.rtl_func.Shapes.{class_at, mode_at, has_mode, same_mode, is_narrower, is_constant_class, is_constant, is_place, is_value, is_effect, is_operand, is_some_operand, is_moded, are_compared, is_jump_source_class, is_counter_class, is_comparison_class, is_label_class, is_call_class, is_memory_class, is_scratch_class, is_set_to, fits_one, is_called, fits_two, fits_three, fits_parts, fits_row}
use Rattle.law_operands_fetched.proofs.law_operands_replaced.NewTrees.{is_lowpart_class}

-- a register or the low part of one; what stands for one
abbrev pub is_replaced_class : Class → Bool
is_replaced_class class.Register = true
is_replaced_class class.Lowpart = true
is_replaced_class _ = false

abbrev pub is_home_class : Class → Bool
is_home_class class.Register = true
is_home_class class.Memory = true
is_home_class _ = false

-- of one mode, and of one class but for registers and what stands for them
pub record Alike (x y : Rtx) : Type 0 where
  pub mode : mode_at y ≡ mode_at x
  pub classes : (class_at y ≡ class_at x) ⊎ ((is_replaced_class (class_at x) ≡ true) × (is_home_class (class_at y) ≡ true))

-- a test that is one for registers, memory and low parts
abbrev IsUniform : (Class → Bool) → Type 0
IsUniform t = (t class.Memory ≡ t class.Register) × (t class.Lowpart ≡ t class.Register)

replaced_test : (t : Class → Bool) (k : Class) → IsUniform t → is_replaced_class k ≡ true → t k ≡ t class.Register
replaced_test t class.Register u is = refl
replaced_test t class.Lowpart u is = u.1
replaced_test t _ u is = absurd (let no : ⊥ = cc in no)

home_test : (t : Class → Bool) (k : Class) → IsUniform t → is_home_class k ≡ true → t k ≡ t class.Register
home_test t class.Register u is = refl
home_test t class.Memory u is = u.0
home_test t _ u is = absurd (let no : ⊥ = cc in no)

uniform : (t : Class → Bool) (x y : Rtx) → IsUniform t → Alike x y → t (class_at y) ≡ t (class_at x)
uniform t x y u a = by a.classes
  where
    by : (class_at y ≡ class_at x) ⊎ ((is_replaced_class (class_at x) ≡ true) × (is_home_class (class_at y) ≡ true)) → t (class_at y) ≡ t (class_at x)
    by (inl same) = ap t same
    by (inr both) = home_test t (class_at y) u both.1 ∙ sym (replaced_test t (class_at x) u both.0)

memory_still : (x y : Rtx) → Alike x y → is_memory_class (class_at x) ≡ true → is_memory_class (class_at y) ≡ true
memory_still x y a is = by a.classes
  where
    no_memory : (k : Class) → is_replaced_class k ≡ true → is_memory_class k ≡ true → ⊥
    no_memory class.Memory replaced memory = let no : ⊥ = cc in no
    no_memory _ replaced memory = let no : ⊥ = cc in no

    by : (class_at y ≡ class_at x) ⊎ ((is_replaced_class (class_at x) ≡ true) × (is_home_class (class_at y) ≡ true)) → is_memory_class (class_at y) ≡ true
    by (inl same) = ap is_memory_class same ∙ is
    by (inr both) = absurd (no_memory (class_at x) both.0 is)

module _ (x y : Rtx) (a : Alike x y) where
  value_is : is_value y ≡ is_value x
  value_is = uniform is_value_class x y (refl, refl) a

  constant_is : is_constant y ≡ is_constant x
  constant_is = uniform is_constant_class x y (refl, refl) a

  place_is : is_place y ≡ is_place x
  place_is = uniform is_place_class x y (refl, refl) a

  effect_is : is_effect y ≡ is_effect x
  effect_is = uniform is_effect_class x y (refl, refl) a

  operand_is : (mode : Mode) → is_operand mode y ≡ is_operand mode x
  operand_is mode = ap (λ v. v && (is_constant y || same_mode mode (mode_at y))) value_is ∙ ap (λ c. is_value x && (c || same_mode mode (mode_at y))) constant_is ∙
      ap (λ md. is_value x && (is_constant x || same_mode mode md)) a.mode

  some_is : is_some_operand y ≡ is_some_operand x
  some_is = ap (λ v. v && (is_constant y || has_mode (mode_at y))) value_is ∙ ap (λ c. is_value x && (c || has_mode (mode_at y))) constant_is ∙
      ap (λ md. is_value x && (is_constant x || has_mode md)) a.mode

  moded_is : is_moded y ≡ is_moded x
  moded_is = ap (λ v. v && has_mode (mode_at y)) value_is ∙ ap (λ md. is_value x && has_mode md) a.mode

-- ---- rows

no_low : (b : Bool) → b ≡ true → b ≡ false → ⊥
no_low b is is' = let e : true ≡ false = sym is ∙ is' in let no : ⊥ = cc in no

one_fits : (k : Class) (mode : Mode) (x y : Rtx) → is_lowpart_class k ≡ false → Alike x y → fits_one k mode x ≡ true → fits_one k mode y ≡ true
one_fits class.Memory mode x y low a fits = ap (λ b. has_mode mode && b) (operand_is x y a DI) ∙ fits
one_fits class.Lowpart mode x y low a fits = absurd (let no : ⊥ = cc in no)
one_fits class.Unary mode x y low a fits = ap (λ b. has_mode mode && b) (operand_is x y a mode) ∙ fits
one_fits class.Extension mode x y low a fits = ap (λ b. b && is_narrower (mode_at y) mode) (value_is x y a) ∙ ap (λ md. is_value x && is_narrower md mode) a.mode ∙ fits
one_fits class.Truncation mode x y low a fits = ap (λ b. b && is_narrower mode (mode_at y)) (value_is x y a) ∙ ap (λ md. is_value x && is_narrower mode md) a.mode ∙ fits
one_fits class.Use mode x y low a fits = ap (λ b. not (has_mode mode) && b) (value_is x y a) ∙ fits
one_fits class.Clobber mode x y low a fits =
    ap (λ b. not (has_mode mode) && (b || is_scratch_class (class_at y))) (place_is x y a) ∙
    ap (λ b. not (has_mode mode) && (is_place x || b)) (uniform is_scratch_class x y (refl, refl) a) ∙ fits
one_fits class.Label mode x y low a fits = ap (λ b. not (has_mode mode) && b) (constant_is x y a) ∙ fits
one_fits _ mode x y low a fits = absurd (let no : ⊥ = cc in no)

compared_is : (x y x' y' : Rtx) → Alike x x' → Alike y y' → are_compared x' y' ≡ are_compared x y
compared_is x y x' y' a b =
    ap (λ c. (c && is_operand (mode_at x') y') || (is_constant x' && is_moded y')) (moded_is x x' a) ∙
    ap (λ c. (is_moded x && c) || (is_constant x' && is_moded y')) (operand_is y y' b (mode_at x') ∙ ap (λ md. is_operand md y) a.mode) ∙
    ap (λ c. (is_moded x && is_operand (mode_at x) y) || (c && is_moded y')) (constant_is x x' a) ∙
    ap (λ c. (is_moded x && is_operand (mode_at x) y) || (is_constant x && c)) (moded_is y y' b)

set_to_is : (x y x' y' : Rtx) → Alike x x' → Alike y y' → is_set_to x' y' ≡ is_set_to x y
set_to_is x y x' y' a b =
    ap (λ c. (c && (is_operand (mode_at x') y' || is_call_class (class_at y'))) || (is_counter_class (class_at x') && is_jump_source_class (class_at y'))) (place_is x x' a) ∙
    ap (λ c. (is_place x && (c || is_call_class (class_at y'))) || (is_counter_class (class_at x') && is_jump_source_class (class_at y')))
    (operand_is y y' b (mode_at x') ∙ ap (λ md. is_operand md y) a.mode) ∙
    ap (λ c. (is_place x && (is_operand (mode_at x) y || c)) || (is_counter_class (class_at x') && is_jump_source_class (class_at y'))) (uniform is_call_class y y' (refl, refl) b) ∙
    ap (λ c. (is_place x && (is_operand (mode_at x) y || is_call_class (class_at y))) || (c && is_jump_source_class (class_at y'))) (uniform is_counter_class x x' (refl, refl) a) ∙
    ap (λ c. (is_place x && (is_operand (mode_at x) y || is_call_class (class_at y))) || (is_counter_class (class_at x) && c)) (uniform is_jump_source_class y y' (refl, refl) b)

and_both : (a b a' b' : Bool) → (a ≡ true → a' ≡ true) → (b ≡ true → b' ≡ true) → (a && b) ≡ true → (a' && b') ≡ true
and_both a b a' b' first second is = let both = and_parts a b is in ap (λ a. a && b') (first both.0) ∙ second both.1

two_fits : (k : Class) (mode : Mode) (x y x' y' : Rtx) → Alike x x' → Alike y y' → fits_two k mode x y ≡ true → fits_two k mode x' y' ≡ true
two_fits class.Binary mode x y x' y' a b fits =
    ap (λ c. has_mode mode && (c && is_operand mode y')) (operand_is x x' a mode) ∙ ap (λ c. has_mode mode && (is_operand mode x && c)) (operand_is y y' b mode) ∙ fits
two_fits class.Shift mode x y x' y' a b fits =
    ap (λ c. has_mode mode && (c && is_some_operand y')) (operand_is x x' a mode) ∙ ap (λ c. has_mode mode && (is_operand mode x && c)) (some_is y y' b) ∙ fits
two_fits class.Comparison mode x y x' y' a b fits = ap (λ c. (not (has_mode mode) || nat_le 32 (mode_bits mode)) && c) (compared_is x y x' y' a b) ∙ fits
two_fits class.Setting mode x y x' y' a b fits = ap (λ c. not (has_mode mode) && c) (set_to_is x y x' y' a b) ∙ fits
two_fits class.Call mode x y x' y' a b fits =
    and_both (not (has_mode mode)) (is_called x y) (not (has_mode mode)) (is_called x' y') (λ is. is)
    (λ is. and_both (is_memory_class (class_at x)) (is_constant y) (is_memory_class (class_at x')) (is_constant y') (memory_still x x' a) (λ is. constant_is y y' b ∙ is) is) fits
two_fits _ mode x y x' y' a b fits = absurd (let no : ⊥ = cc in no)

three_fits : (k : Class) (mode : Mode) (x y z x' y' z' : Rtx) → Alike x x' → Alike y y' → Alike z z' → fits_three k mode x y z ≡ true → fits_three k mode x' y' z' ≡ true
three_fits class.Branch mode x y z x' y' z' a b c fits =
    ap (λ t. not (has_mode mode) && (t && (is_label_class (class_at y') && is_counter_class (class_at z')))) (uniform is_comparison_class x x' (refl, refl) a) ∙
    ap (λ t. not (has_mode mode) && (is_comparison_class (class_at x) && (t && is_counter_class (class_at z')))) (uniform is_label_class y y' (refl, refl) b) ∙
    ap (λ t. not (has_mode mode) && (is_comparison_class (class_at x) && (is_label_class (class_at y) && t))) (uniform is_counter_class z z' (refl, refl) c) ∙ fits
three_fits _ mode x y z x' y' z' a b c fits = absurd (let no : ⊥ = cc in no)

pub data AllAlike : List Rtx → List Rtx → Type 0 where
  none : AllAlike [] []
  next : (x y : Rtx) (xs ys : List Rtx) → Alike x y → AllAlike xs ys → AllAlike (x ∷ xs) (y ∷ ys)

parts_fit : (k : Class) (mode : Mode) (number : ℕ) (xs ys : List Rtx) → is_lowpart_class k ≡ false → AllAlike xs ys → fits_parts k mode number xs ≡ true →
    fits_parts k mode number ys ≡ true
parts_fit k mode number _ _ low none fits = fits
parts_fit k mode number _ _ low (next x x' _ _ a none) fits = one_fits k mode x x' low a fits
parts_fit k mode number _ _ low (next x x' _ _ a (next y y' _ _ b none)) fits = two_fits k mode x y x' y' a b fits
parts_fit k mode number _ _ low (next x x' _ _ a (next y y' _ _ b (next z z' _ _ c none))) fits = three_fits k mode x y z x' y' z' a b c fits
parts_fit k mode number _ _ low (next x x' _ _ a (next y y' _ _ b (next z z' _ _ c (next v v' xs ys d more)))) fits = absurd (let no : ⊥ = cc in no)

pub effects_fit : (xs ys : List Rtx) → AllAlike xs ys → list_all is_effect xs ≡ true → list_all is_effect ys ≡ true
effects_fit _ _ none fits = refl
effects_fit _ _ (next x y xs ys a more) fits =
    let both = and_parts (is_effect x) _ fits in ap (λ b. b && list_all is_effect ys) (effect_is x y a ∙ both.0) ∙ effects_fit xs ys more both.1

-- a row of parts that are alike
pub row_fits : (k : Class) (mode : Mode) (number : ℕ) (xs ys : List Rtx) → is_lowpart_class k ≡ false → AllAlike xs ys → fits_row k mode number xs ≡ true →
    fits_row k mode number ys ≡ true
row_fits class.Parallel mode number xs ys low all fits =
    and_both (not (has_mode mode)) (list_all is_effect xs) (not (has_mode mode)) (list_all is_effect ys) (λ is. is) (effects_fit xs ys all) fits
row_fits k mode number xs ys low all fits = parts_fit k mode number xs ys low all fits
