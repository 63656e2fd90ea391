-- A pattern that keeps the rules leaves the address past the locals as it is.
use Rattle.std.proofs.Common.{◌≡◌, ℕ, Bool, true, false, not, ◌==◌, ◌&&◌, List, [], ◌∷◌, Option, refl, sym, ap, ◌∙◌}
use Rattle.std.specs.Prelude.{ℤ, pos}
use Rattle.std.specs.Int.{cast_unsigned, w64}
use Rattle.std.specs.List.{list_any, list_all, AllByRecursion}
use Rattle.std.proofs.lemmas.Bool.{false≢true, true≢false, false_from_ne_true, and_parts, or_from}
use Rattle.std.proofs.lemmas.Bool.Decides.{Decides-int_eq}
use Rattle.rtx_tree.specs.Code.{class_of_code}
use Rattle.rtx_tree.specs.declared.class.Class.TheVariants as class
use Rattle.rtx_tree.specs.declared.code.Code.{Code}
use Rattle.rtx_tree.specs.declared.code.Code.TheVariants.{Reg, Subreg, Set, Clobber, Parallel}
use Rattle.rtx_tree.specs.declared.code.Mode.{Mode}
use Rattle.rtx_tree.specs.declared.tree.Rtx.{Rtx, out-Rtx}
use Rattle.rtx_tree.specs.Registers.{virtual_stack_vars}
use Rattle.rtx_tree.specs.Tree.{head_of, kids_of, is_reg_numbered}
use Rattle.rtl_func.specs.Effects.{place_register_by, place_register, changed_by, changed_register, is_stack_register, sums_locals, has_stack_variables, stack_variables}
use Rattle.rtl_func.specs.Modes.{register_by, register_at, shapes_agree}
use Rattle.rtl_func.specs.Shapes.{class_at, mode_at, number_at, is_effect, is_bare, fits_row, is_shaped}
use Rattle.rtl_func.proofs.AllPass.{all_pass, itself, within}
use Rattle.reg_uses.specs.Effects.{is_register, place_is_by, place_is, effect_defines_by, effect_defines, effects_by, pattern_defines}

-- ---- places

of_number : (c : Code) (n : ℤ) → is_reg_numbered c n virtual_stack_vars ≡ true →
    is_stack_register (register_by (class_of_code c) (cast_unsigned w64 n)) ≡ true
of_number Reg n is = ap (λ (z : ℤ). is_stack_register (register_by class.Register (cast_unsigned w64 z))) ((Decides-int_eq n (pos virtual_stack_vars)).0 is)
of_number _ n is = absurd (false≢true is)

of_register : (x : Rtx) → is_register virtual_stack_vars x ≡ true → is_stack_register (register_at x) ≡ true
of_register x is =
    of_number (head_of x).code (head_of x).number (and_parts (not (virtual_stack_vars == 0)) (is_reg_numbered (head_of x).code (head_of x).number virtual_stack_vars) is).1

of_place_by : (c : Code) (m : Mode) (number : ℕ) (parts : List Rtx) (x : Rtx) → fits_row (class_of_code c) m number parts ≡ true →
    place_is_by virtual_stack_vars c parts x ≡ true → is_stack_register (place_register_by (class_of_code c) parts x) ≡ true
of_place_by Subreg m number [] x fits is = absurd (false≢true fits)
of_place_by Subreg m number (whole ∷ []) x fits is = of_register whole is
of_place_by Subreg m number (a ∷ b ∷ []) x fits is = absurd (false≢true fits)
of_place_by Subreg m number (a ∷ b ∷ c ∷ []) x fits is = absurd (false≢true fits)
of_place_by Subreg m number (a ∷ b ∷ c ∷ d ∷ parts) x fits is = absurd (false≢true fits)
of_place_by _ m number parts x fits is = of_register x is

row_of : (x : Rtx) → is_shaped x ≡ true → fits_row (class_at x) (mode_at x) (number_at x) (out-Rtx x).kids ≡ true
row_of x is = (and_parts (is_bare (class_at x) (number_at x) (out-Rtx x).name) (fits_row (class_at x) (mode_at x) (number_at x) (out-Rtx x).kids) is).1

of_place : (x : Rtx) → is_shaped x ≡ true → place_is virtual_stack_vars x ≡ true → is_stack_register (place_register x) ≡ true
of_place x shaped is = of_place_by (head_of x).code (mode_at x) (number_at x) (kids_of x) x (row_of x shaped) is

-- ---- effects

first_shaped : (place : Rtx) (parts : List Rtx) → list_all (all_pass is_shaped) (place ∷ parts) ≡ true → is_shaped place ≡ true
first_shaped place parts all = itself is_shaped place (and_parts (all_pass is_shaped place) (list_all (all_pass is_shaped) parts) all).0

of_effect_by : (c : Code) (parts : List Rtx) → list_all (all_pass is_shaped) parts ≡ true → effect_defines_by virtual_stack_vars c parts ≡ true →
    is_stack_register (changed_by (class_of_code c) parts) ≡ true
of_effect_by Set (place ∷ parts) shaped is = of_place place (first_shaped place parts shaped) is
of_effect_by Clobber (place ∷ parts) shaped is = of_place place (first_shaped place parts shaped) is
of_effect_by _ parts shaped is = absurd (false≢true is)

turned : (b : Bool) → not b ≡ true → b ≡ true → ⊥
turned true is here = false≢true is
turned false is here = false≢true here

module _ (locals : ℕ) where
  effect_leaves : (x : Rtx) → all_pass is_shaped x ≡ true → all_pass (has_stack_variables locals) x ≡ true →
      effect_defines virtual_stack_vars x ≡ false
  effect_leaves x shaped keeps =
      let unchanged = (and_parts (not (is_stack_register (changed_register x))) (sums_locals locals x) (itself (has_stack_variables locals) x keeps)).0 in
      false_from_ne_true (effect_defines virtual_stack_vars x)
      (λ is. turned (is_stack_register (changed_register x)) unchanged (of_effect_by (head_of x).code (kids_of x) (within is_shaped x shaped) is))

  all_leave : (effects : List Rtx) → list_all (all_pass is_shaped) effects ≡ true → list_all (all_pass (has_stack_variables locals)) effects ≡ true →
      list_any (effect_defines virtual_stack_vars) effects ≡ false
  all_leave [] shaped keep = refl
  all_leave (x ∷ effects) shaped keep =
      let first = and_parts (all_pass is_shaped x) (list_all (all_pass is_shaped) effects) shaped in
      let both = and_parts (all_pass (has_stack_variables locals) x) (list_all (all_pass (has_stack_variables locals)) effects) keep in
      or_from (effect_defines virtual_stack_vars x) (list_any (effect_defines virtual_stack_vars) effects) (effect_leaves x first.0 both.0) (all_leave effects first.1 both.1)

  by_code : (c : Code) (x : Rtx) → all_pass is_shaped x ≡ true → all_pass (has_stack_variables locals) x ≡ true →
      list_any (effect_defines virtual_stack_vars) (effects_by c (kids_of x) x) ≡ false
  by_code Parallel x shaped keeps = all_leave (kids_of x) (within is_shaped x shaped) (within (has_stack_variables locals) x keeps)
  by_code _ x shaped keeps = or_from (effect_defines virtual_stack_vars x) false (effect_leaves x shaped keeps) refl

  -- a pattern of the right shapes that keeps the rule of virtual-stack-vars does not define it
  pub leaves_vars : (pattern : Rtx) → shapes_agree pattern ≡ true → stack_variables locals pattern ≡ true →
      pattern_defines virtual_stack_vars pattern ≡ false
  leaves_vars pattern shaped keeps = by_code (head_of pattern).code pattern (and_parts (is_effect pattern) (all_pass is_shaped pattern) shaped).1 keeps
