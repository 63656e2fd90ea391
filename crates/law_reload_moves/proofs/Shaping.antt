-- A tree is within the table of codes where its parts are like those of one that is.
use Rattle.std.proofs.Common.{◌≡◌, ℕ, ◌&&◌, ◌||◌, not, Bool, true, false, List, [], ◌∷◌, refl, ap, ◌∙◌}
use Rattle.std.proofs.lemmas.Bool.{and_parts, and_from}
use Rattle.std.specs.List.{list_all}
use Rattle.std.specs.Prelude.{nat_le}
use Rattle.law_operands_fetched.specs.rtx_tree.declared.class.Class.{Class}
use Rattle.law_operands_fetched.specs.rtx_tree.declared.class.Class.TheVariants as class
use Rattle.law_operands_fetched.specs.rtx_tree.declared.code.Mode.{Mode}
use Rattle.law_operands_fetched.specs.rtx_tree.declared.code.Mode.TheVariants.{DI}
use Rattle.law_operands_fetched.specs.rtx_tree.declared.tree.Rtx.{Rtx}
use Rattle.law_operands_fetched.specs.rtx_tree.Code.{is_effect_class, mode_bits}
use Rattle.law_operands_fetched.specs.rtl_func.Shapes.{class_at, mode_at, has_mode, same_mode, is_narrower, is_constant, is_place, is_value, is_effect, is_operand, is_some_operand, is_moded, are_compared, is_jump_source_class, is_counter_class, is_comparison_class, is_label_class, is_call_class, is_memory_class, is_scratch_class, is_set_to, fits_one, fits_two, fits_three, fits_parts, fits_row, is_called, is_choice}

-- a test that neither a register passes, nor its low part, nor a sum
abbrev pub IsOfOthers : (Class → Bool) → Type 0
IsOfOthers f = (f class.Register ≡ false) × ((f class.Lowpart ≡ false) × (f class.Binary ≡ false))

-- as a part of a tree one is like the other: but that a register, its low part and a sum may be a register, memory and a sum
pub record Alike (a b : Rtx) : Type 0 where
  pub mode : mode_at b ≡ mode_at a
  pub value : is_value b ≡ is_value a
  pub constant : is_constant b ≡ is_constant a
  pub others : (f : Class → Bool) → IsOfOthers f → f (class_at a) ≡ true → f (class_at b) ≡ true

-- and it is a place if the other is
abbrev pub PlaceToo : Rtx → Rtx → Type 0
PlaceToo a b = is_place a ≡ true → is_place b ≡ true

abbrev pub AllAlike : List Rtx → List Rtx → Type 0
AllAlike [] [] = Unit {0}
AllAlike [] (b ∷ bs) = ⊥
AllAlike (a ∷ xs) [] = ⊥
AllAlike (a ∷ xs) (b ∷ ys) = Alike a b × AllAlike xs ys

-- the first part is a place if the other's is
abbrev pub FirstPlace : List Rtx → List Rtx → Type 0
FirstPlace (a ∷ xs) (b ∷ ys) = PlaceToo a b
FirstPlace xs ys = Unit {0}

-- what changes its first part
abbrev pub is_changing : Class → Bool
is_changing class.Setting = true
is_changing class.Clobber = true
is_changing _ = false

same_operand : (m : Mode) (a b : Rtx) → Alike a b → is_operand m b ≡ is_operand m a
same_operand m a b like =
    ap (λ v. v && (is_constant b || same_mode m (mode_at b))) like.value ∙
    ap (λ c. is_value a && (c || same_mode m (mode_at b))) like.constant ∙
    ap (λ n. is_value a && (is_constant a || same_mode m n)) like.mode

same_some : (a b : Rtx) → Alike a b → is_some_operand b ≡ is_some_operand a
same_some a b like =
    ap (λ v. v && (is_constant b || has_mode (mode_at b))) like.value ∙ ap (λ c. is_value a && (c || has_mode (mode_at b))) like.constant ∙
    ap (λ n. is_value a && (is_constant a || has_mode n)) like.mode

same_moded : (a b : Rtx) → Alike a b → is_moded b ≡ is_moded a
same_moded a b like = ap (λ v. v && has_mode (mode_at b)) like.value ∙ ap (λ n. is_value a && has_mode n) like.mode

same_compared : (a b a' b' : Rtx) → Alike a a' → Alike b b' → are_compared a' b' ≡ are_compared a b
same_compared a b a' b' first second =
    ap (λ v. (v && is_operand (mode_at a') b') || (is_constant a' && is_moded b')) (same_moded a a' first) ∙
    ap (λ m. (is_moded a && is_operand m b') || (is_constant a' && is_moded b')) first.mode ∙
    ap (λ v. (is_moded a && v) || (is_constant a' && is_moded b')) (same_operand (mode_at a) b b' second) ∙
    ap (λ c. (is_moded a && is_operand (mode_at a) b) || (c && is_moded b')) first.constant ∙
    ap (λ v. (is_moded a && is_operand (mode_at a) b) || (is_constant a && v)) (same_moded b b' second)

or_by : (a b c d : Bool) → (a ≡ true → c ≡ true) → (b ≡ true → d ≡ true) → a || b ≡ true → c || d ≡ true
or_by true b c d first second is = ap (λ c. c || d) (first refl)
or_by false b c d first second is = last c d (second is)
  where
    last : (c d : Bool) → d ≡ true → c || d ≡ true
    last true d is = refl
    last false d is = is

and_by : (a b c d : Bool) → (a ≡ true → c ≡ true) → (b ≡ true → d ≡ true) → a && b ≡ true → c && d ≡ true
and_by a b c d first second is = let both = and_parts a b is in and_from c d (first both.0) (second both.1)

other : (f : Class → Bool) (a b : Rtx) → Alike a b → IsOfOthers f → f (class_at a) ≡ true → f (class_at b) ≡ true
other f a b like of is = like.others f of is

set_too : (t s t' s' : Rtx) → Alike t t' → PlaceToo t t' → Alike s s' → is_set_to t s ≡ true → is_set_to t' s' ≡ true
set_too t s t' s' target place source is =
    or_by (is_place t && (is_operand (mode_at t) s || is_call_class (class_at s)))
    (is_counter_class (class_at t) && is_jump_source_class (class_at s)) _ _
    (and_by (is_place t) (is_operand (mode_at t) s || is_call_class (class_at s)) _ _ place
    (or_by (is_operand (mode_at t) s) (is_call_class (class_at s)) _ _
    (λ operand. ap (λ m. is_operand m s') target.mode ∙ same_operand (mode_at t) s s' source ∙ operand)
    (other is_call_class s s' source (refl, (refl, refl)))))
    (and_by (is_counter_class (class_at t)) (is_jump_source_class (class_at s)) _ _
    (other is_counter_class t t' target (refl, (refl, refl)))
    (other is_jump_source_class s s' source (refl, (refl, refl)))) is

abbrev pub is_low : Class → Bool
is_low class.Lowpart = true
is_low _ = false

one_too : (k : Class) (mode : Mode) (a b : Rtx) → is_low k ≡ false → Alike a b →
    (is_changing k ≡ true → PlaceToo a b) → fits_one k mode a ≡ true → fits_one k mode b ≡ true
one_too class.Memory mode a b low like place fits = ap (λ o. has_mode mode && o) (same_operand DI a b like) ∙ fits
one_too class.Lowpart mode a b low like place fits = absurd (let no : ⊥ = cc in no)
one_too class.Unary mode a b low like place fits = ap (λ o. has_mode mode && o) (same_operand mode a b like) ∙ fits
one_too class.Extension mode a b low like place fits =
    ap (λ v. v && is_narrower (mode_at b) mode) like.value ∙ ap (λ m. is_value a && is_narrower m mode) like.mode ∙ fits
one_too class.Truncation mode a b low like place fits =
    ap (λ v. v && is_narrower mode (mode_at b)) like.value ∙ ap (λ m. is_value a && is_narrower mode m) like.mode ∙ fits
one_too class.Use mode a b low like place fits = ap (λ v. not (has_mode mode) && v) like.value ∙ fits
one_too class.Clobber mode a b low like place fits =
    and_by (not (has_mode mode)) (is_place a || is_scratch_class (class_at a)) _ _ (λ e. e)
    (or_by (is_place a) (is_scratch_class (class_at a)) _ _ (place refl) (other is_scratch_class a b like (refl, (refl, refl)))) fits
one_too class.Label mode a b low like place fits = ap (λ c. not (has_mode mode) && c) like.constant ∙ fits
one_too _ mode a b low like place fits = absurd (let no : ⊥ = cc in no)

two_too : (k : Class) (mode : Mode) (a b a' b' : Rtx) → Alike a a' → (is_changing k ≡ true → PlaceToo a a') →
    Alike b b' → fits_two k mode a b ≡ true → fits_two k mode a' b' ≡ true
two_too class.Binary mode a b a' b' first place second fits =
    ap (λ o. has_mode mode && (o && is_operand mode b')) (same_operand mode a a' first) ∙
    ap (λ o. has_mode mode && (is_operand mode a && o)) (same_operand mode b b' second) ∙ fits
two_too class.Shift mode a b a' b' first place second fits =
    ap (λ o. has_mode mode && (o && is_some_operand b')) (same_operand mode a a' first) ∙
    ap (λ o. has_mode mode && (is_operand mode a && o)) (same_some b b' second) ∙ fits
two_too class.Comparison mode a b a' b' first place second fits = ap (λ o.
    (not (has_mode mode) || nat_le 32 (mode_bits mode)) && o) (same_compared a b a' b' first second) ∙ fits
two_too class.Setting mode a b a' b' first place second fits =
    and_by (not (has_mode mode)) (is_set_to a b) _ _ (λ e. e) (set_too a b a' b' first (place refl) second) fits
two_too class.Call mode a b a' b' first place second fits =
    and_by (not (has_mode mode)) (is_called a b) _ _ (λ e. e)
    (and_by (is_memory_class (class_at a)) (is_constant b) _ _ (other is_memory_class a a' first (refl, (refl, refl)))
    (λ c. second.constant ∙ c)) fits
two_too _ mode a b a' b' first place second fits = absurd (let no : ⊥ = cc in no)

three_too : (k : Class) (mode : Mode) (a b c a' b' c' : Rtx) → Alike a a' → Alike b b' → Alike c c' → fits_three k mode a b c ≡ true →
    fits_three k mode a' b' c' ≡ true
three_too class.Branch mode a b c a' b' c' first second third fits =
    and_by (not (has_mode mode)) (is_choice a b c) _ _ (λ e. e)
    (and_by (is_comparison_class (class_at a)) (is_label_class (class_at b) && is_counter_class (class_at c)) _ _
    (other is_comparison_class a a' first (refl, (refl, refl)))
    (and_by (is_label_class (class_at b)) (is_counter_class (class_at c)) _ _ (other is_label_class b b' second (refl, (refl, refl)))
    (other is_counter_class c c' third (refl, (refl, refl))))) fits
three_too _ mode a b c a' b' c' first second third fits = absurd (let no : ⊥ = cc in no)

effects_too : (xs ys : List Rtx) → AllAlike xs ys → list_all is_effect xs ≡ true → list_all is_effect ys ≡ true
effects_too [] [] like all = refl
effects_too [] (b ∷ ys) like all = absurd like
effects_too (a ∷ xs) [] like all = absurd like
effects_too (a ∷ xs) (b ∷ ys) like all =
    and_by (is_effect a) (list_all is_effect xs) _ _ (other is_effect_class a b like.0 (refl, (refl, refl))) (effects_too xs ys like.1) all

parallel_by : (mode : Mode) (number : ℕ) (xs ys : List Rtx) → AllAlike xs ys →
    fits_row class.Parallel mode number xs ≡ true → fits_row class.Parallel mode number ys ≡ true
parallel_by mode number xs ys like fits = and_by (not (has_mode mode)) (list_all is_effect xs) _ _ (λ e. e) (effects_too xs ys like) fits

rest_by : (k : Class) (mode : Mode) (number : ℕ) (xs ys : List Rtx) → AllAlike xs ys →
    (is_changing k ≡ true → FirstPlace xs ys) → is_low k ≡ false →
    fits_parts k mode number xs ≡ true → fits_parts k mode number ys ≡ true
rest_by k mode number [] [] like place low fits = fits
rest_by k mode number [] (b ∷ ys) like place low fits = absurd like
rest_by k mode number (a ∷ xs) [] like place low fits = absurd like
rest_by k mode number (a ∷ []) (b ∷ []) like place low fits = one_too k mode a b low like.0 place fits
rest_by k mode number (a ∷ []) (b ∷ b' ∷ ys) like place low fits = absurd like.1
rest_by k mode number (a ∷ a' ∷ xs) (b ∷ []) like place low fits = absurd like.1
rest_by k mode number (a ∷ a' ∷ []) (b ∷ b' ∷ []) like place low fits = two_too k mode a a' b b' like.0 place like.1.0 fits
rest_by k mode number (a ∷ a' ∷ []) (b ∷ b' ∷ c ∷ ys) like place low fits = absurd like.1.1
rest_by k mode number (a ∷ a' ∷ c ∷ xs) (b ∷ b' ∷ []) like place low fits = absurd like.1.1
rest_by k mode number (a ∷ a' ∷ c ∷ []) (b ∷ b' ∷ c' ∷ []) like place low fits = three_too k mode a a' c b b' c'
    like.0 like.1.0 like.1.1.0 fits
rest_by k mode number (a ∷ a' ∷ c ∷ []) (b ∷ b' ∷ c' ∷ d ∷ ys) like place low fits = absurd like.1.1.1
rest_by k mode number (a ∷ a' ∷ c ∷ d ∷ xs) ys like place low fits = absurd (let no : ⊥ = cc in no)

-- such parts fit the row, that of a low part apart
pub row_too : (k : Class) (mode : Mode) (number : ℕ) (xs ys : List Rtx) → AllAlike xs ys →
    (is_changing k ≡ true → FirstPlace xs ys) → is_low k ≡ false →
    fits_row k mode number xs ≡ true → fits_row k mode number ys ≡ true
row_too class.Parallel mode number xs ys like place low fits = parallel_by mode number xs ys like fits
row_too k mode number xs ys like place low fits = rest_by k mode number xs ys like place low fits
