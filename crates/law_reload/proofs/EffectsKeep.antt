-- The effects of an instruction that can be reloaded change the address past the locals nowhere, at
-- no depth.
use Rattle.std.proofs.Common.{◌≡◌, ℕ, ◌<◌, ◌^◌, ◌==◌, ◌&&◌, ◌||◌, not, inl, inr, Bool, true, false, List, [], ◌∷◌, refl, sym, ap, ◌∙◌, arith}
use Rattle.std.specs.Int.{cast_unsigned, w64}
use Rattle.std.specs.List.{list_all, list_any}
use Rattle.std.specs.Prelude.{ℤ, pos, negsuc}
use Rattle.std.proofs.lemmas.Bool.{false≢true, and_parts, or_cases, eqb-true}
use Rattle.std.proofs.lemmas.Bool.Decides.{Decides-int_eq, nat_tests}
use Rattle.rtx_tree.specs.Code.{class_of_code}
use Rattle.rtx_tree.specs.Registers.{virtual_stack_vars}
use Rattle.rtx_tree.specs.Tree.{head_of, kids_of, is_reg_numbered}
use Rattle.rtx_tree.specs.declared.class.Class.{Class}
use Rattle.rtx_tree.specs.declared.class.Class.TheVariants as class
use Rattle.rtx_tree.specs.declared.code.Code.{Code}
use Rattle.rtx_tree.specs.declared.code.Code.TheVariants as code
use Rattle.rtx_tree.specs.declared.code.Mode.{Mode}
use Rattle.rtx_tree.specs.declared.function.Insn.{Insn}
use Rattle.rtx_tree.specs.declared.tree.Rtx.{Rtx}
use Rattle.rtl_func.specs.Effects.{place_register_by, place_register, changed_by, is_simple_class, is_simple_effect, holds_simple, holds_simple_by, is_stack_register}
use Rattle.rtl_func.specs.Calls.{call_result_agrees}
use Rattle.rtl_func.specs.Kinds.{kinds_agree}
use Rattle.rtl_func.specs.Modes.{register_by, register_at, shapes_agree}
use Rattle.rtl_func.specs.Shapes.{class_at, mode_at, number_at, has_mode, is_place, is_scratch_class, is_call_class, is_counter_class, is_jump_source_class, is_operand, is_effect, is_set_to, fits_row, is_shaped}
use Rattle.rtl_func.proofs.AllPass.{all_pass, pass_out, itself, within}
use Rattle.rtl_step.specs.Step.{is_mark}
use Rattle.reg_uses.specs.Effects.{is_register, place_is_by, place_is, effect_defines_by, effect_defines, effects_by}
use Rattle.law_reload_moves.specs.sym_insns.Shape.{is_natural, all_natural}
use Rattle.reload.specs.law_pass_needs.Reloadable.{IsInsnReloadable}
use Rattle.law_reload_moves.proofs.law_window_replaced.Trees.{natural_here, natural_kids}
use Rattle.law_window_lines.proofs.Small.{or_false}
use Rattle.law_reload.proofs.KeepsVars.{leaves_vars, still_at, place_still, counter_still, source_still, scratch_still, call_still, operand_still, pair_still, kids_still, row_of, all_still, both}

-- ---- a place

vars_of : (c : Code) (n : ℤ) → is_natural c n ≡ true → is_stack_register
    (register_by (class_of_code c) (cast_unsigned w64 n)) ≡ true →
    is_reg_numbered c n virtual_stack_vars ≡ true
vars_of code.Reg (pos k) natural is =
    let few : k < 2 ^ 63 = grind (arith, nat_tests, natural) in
    let same : cast_unsigned w64 (pos k) ≡ k = omega (arith, few) in
    let here : k ≡ 32 = eqb-true k 32 (sym (ap (λ n. n == 32) same) ∙ is) in
    (Decides-int_eq (pos k) (pos virtual_stack_vars)).1 (ap pos here)
vars_of code.Reg (negsuc k) natural is = absurd (false≢true natural)
vars_of _ n natural is = absurd (false≢true is)

vars_at : (x : Rtx) → all_natural x ≡ true → is_stack_register (register_at x) ≡ true →
    is_register virtual_stack_vars x ≡ true
vars_at x natural is = vars_of (head_of x).code (head_of x).number (natural_here x natural) is

place_by : (c : Code) (mode : Mode) (n : ℕ) (parts : List Rtx) (x : Rtx) →
    fits_row (class_of_code c) mode n parts ≡ true →
    list_all all_natural parts ≡ true → all_natural x ≡ true →
    is_stack_register (place_register_by (class_of_code c) parts x) ≡ true →
    place_is_by virtual_stack_vars c parts x ≡ true
place_by code.Subreg mode n [] x fits kids natural is = absurd (false≢true fits)
place_by code.Subreg mode n (whole ∷ []) x fits kids natural is =
    vars_at whole (and_parts (all_natural whole) true kids).0 is
place_by code.Subreg mode n (a ∷ b ∷ []) x fits kids natural is = absurd (false≢true fits)
place_by code.Subreg mode n (a ∷ b ∷ c ∷ []) x fits kids natural is = absurd (false≢true fits)
place_by code.Subreg mode n (a ∷ b ∷ c ∷ d ∷ parts) x fits kids natural is =
    absurd (false≢true fits)
place_by _ mode n parts x fits kids natural is = vars_at x natural is

place_vars : (x : Rtx) → all_pass is_shaped x ≡ true → all_natural x ≡ true →
    is_stack_register (place_register x) ≡ true →
    place_is virtual_stack_vars x ≡ true
place_vars x shaped natural is =
    place_by (head_of x).code (mode_at x) (number_at x) (kids_of x) x (row_of x shaped)
    (natural_kids x natural) natural is

place_leaves : (x : Rtx) (b : Bool) → is_stack_register (place_register x) ≡ b →
    all_pass is_shaped x ≡ true → all_natural x ≡ true →
    place_is virtual_stack_vars x ≡ false → not b ≡ true
place_leaves x false is shaped natural none = refl
place_leaves x true is shaped natural none = absurd (false≢true
    (sym none ∙ place_vars x shaped natural is))

-- ---- an effect

changed_leaves : (c : Code) (kids : List Rtx) → list_all (all_pass is_shaped) kids ≡ true →
    list_all all_natural kids ≡ true →
    effect_defines_by virtual_stack_vars c kids ≡ false →
    not (is_stack_register (changed_by (class_of_code c) kids)) ≡ true
changed_leaves code.Set [] shaped natural none = refl
changed_leaves code.Set (place ∷ parts) shaped natural none =
    place_leaves place (is_stack_register (place_register place)) refl
    (and_parts (all_pass is_shaped place) _ shaped).0
    (and_parts (all_natural place) _ natural).0 none
changed_leaves code.Clobber [] shaped natural none = refl
changed_leaves code.Clobber (place ∷ parts) shaped natural none =
    place_leaves place (is_stack_register (place_register place)) refl
    (and_parts (all_pass is_shaped place) _ shaped).0
    (and_parts (all_natural place) _ natural).0 none
changed_leaves _ kids shaped natural none = refl

set_still : (a b : Rtx) → is_set_to a b ≡ true → list_all still_at (a ∷ b ∷ []) ≡ true
set_still a b is = elim (or_cases (is_place a && (is_operand (mode_at a) b || is_call_class
    (class_at b))) _ is) [
      | inl here ↦
          let parts = and_parts (is_place a) _ here in
          pair_still a b (place_still (class_at a) parts.0)
          (elim (or_cases (is_operand (mode_at a) b) (is_call_class (class_at b)) parts.1) [
            | inl operand ↦ operand_still (mode_at a) b operand
            | inr call ↦ call_still (class_at b) call
          ])
      | inr there ↦
          let parts = and_parts (is_counter_class (class_at a)) (is_jump_source_class (class_at b))
          there in
          pair_still a b (counter_still (class_at a) parts.0) (source_still (class_at b) parts.1)
    ]

abbrev is_parallel : Class → Bool
is_parallel class.Parallel = true
is_parallel _ = false

effect_kids : (k : Class) (mode : Mode) (n : ℕ) (kids : List Rtx) → is_parallel k ≡ false →
    fits_row k mode n kids ≡ true →
    list_all still_at kids ≡ true
effect_kids class.Parallel mode n kids none fits = absurd (false≢true (sym none))
effect_kids class.Setting mode n [] none fits = refl
effect_kids class.Setting mode n (a ∷ []) none fits = absurd (false≢true fits)
effect_kids class.Setting mode n (a ∷ b ∷ []) none fits =
    set_still a b (and_parts (not (has_mode mode)) (is_set_to a b) fits).1
effect_kids class.Setting mode n (a ∷ b ∷ c ∷ []) none fits = absurd (false≢true fits)
effect_kids class.Setting mode n (a ∷ b ∷ c ∷ d ∷ kids) none fits = absurd (false≢true fits)
effect_kids class.Clobber mode n [] none fits = refl
effect_kids class.Clobber mode n (a ∷ []) none fits =
    both (still_at a) true (elim (or_cases (is_place a) (is_scratch_class (class_at a))
    (and_parts (not (has_mode mode)) _ fits).1) [
      | inl place ↦ place_still (class_at a) place
      | inr scratch ↦ scratch_still (class_at a) scratch
    ]) refl
effect_kids class.Clobber mode n (a ∷ b ∷ []) none fits = absurd (false≢true fits)
effect_kids class.Clobber mode n (a ∷ b ∷ c ∷ []) none fits = absurd (false≢true fits)
effect_kids class.Clobber mode n (a ∷ b ∷ c ∷ d ∷ kids) none fits = absurd (false≢true fits)
effect_kids k mode n kids none fits = kids_still k mode n kids refl fits

effect_leaves : (x : Rtx) → is_parallel (class_at x) ≡ false → all_pass is_shaped x ≡ true →
    all_natural x ≡ true →
    effect_defines virtual_stack_vars x ≡ false → all_pass leaves_vars x ≡ true
effect_leaves x none shaped natural leaves = pass_out leaves_vars x ∙
    both (leaves_vars x) _
    (changed_leaves (head_of x).code (kids_of x) (within is_shaped x shaped)
    (natural_kids x natural) leaves)
    (all_still (kids_of x) (within is_shaped x shaped) (effect_kids (class_at x) (mode_at x)
    (number_at x) (kids_of x) none (row_of x shaped)))

-- ---- a pattern

simple_none : (k : Class) → is_simple_class k ≡ true → is_parallel k ≡ false
simple_none class.Parallel is = absurd (false≢true is)
simple_none _ is = refl

all_effects : (xs : List Rtx) → list_all is_simple_effect xs ≡ true →
    list_all (all_pass is_shaped) xs ≡ true → list_all all_natural xs ≡ true →
    list_any (effect_defines virtual_stack_vars) xs ≡ false →
    list_all (all_pass leaves_vars) xs ≡ true
all_effects [] simple shaped natural leaves = refl
all_effects (x ∷ xs) simple shaped natural leaves =
    let simples = and_parts (is_simple_effect x) _ simple in
    let shapes = and_parts (all_pass is_shaped x) _ shaped in
    let numbers = and_parts (all_natural x) _ natural in
    let none = or_false (effect_defines virtual_stack_vars x) _ leaves in
    both (all_pass leaves_vars x) _ (effect_leaves x (simple_none (class_at x) simples.0) shapes.0
    numbers.0 none.0)
    (all_effects xs simples.1 shapes.1 numbers.1 none.1)

by_code : (c : Code) (x : Rtx) → (head_of x).code ≡ c → all_pass holds_simple x ≡ true →
    all_pass is_shaped x ≡ true → all_natural x ≡ true →
    list_any (effect_defines virtual_stack_vars) (effects_by c (kids_of x) x) ≡ false →
    all_pass leaves_vars x ≡ true
by_code code.Parallel x is simple shaped natural leaves = pass_out leaves_vars x ∙
    both (leaves_vars x) _ (ap (λ c. not (is_stack_register
    (changed_by (class_of_code c) (kids_of x)))) is)
    (all_effects (kids_of x) (sym (ap (λ c. holds_simple_by (class_of_code c) (kids_of x)) is) ∙
    itself holds_simple x simple)
    (within is_shaped x shaped) (natural_kids x natural) leaves)
by_code _ x is simple shaped natural leaves =
    effect_leaves x (ap (λ c. is_parallel (class_of_code c)) is) shaped natural
    (or_false (effect_defines virtual_stack_vars x) false leaves).0

pub vars_kept : (i : Insn) → IsInsnReloadable i → is_mark i.kind ≡ false →
    all_pass leaves_vars i.pattern ≡ true
vars_kept i is none =
    let shape = and_parts (shapes_agree i.pattern) _ (and_parts (kinds_agree i.kind i.pattern) _
    (is.shaped none)).1 in
    let rest = and_parts (all_natural i.pattern) _ shape.1 in
    let simple = (and_parts (call_result_agrees i.kind i.pattern i.uses)
    (all_pass holds_simple i.pattern) rest.1).1 in
    by_code (head_of i.pattern).code i.pattern refl simple
    (and_parts (is_effect i.pattern) _ shape.0).1 is.natural is.vars
