-- A function that can be reloaded can have homes put in.
use Rattle.std.proofs.Common.{◌≡◌, ℕ, ◌==◌, ◌&&◌, ◌||◌, ◌⊎◌, inl, inr, Bool, true, false, List, [], ◌∷◌, refl, sym, ap, subst, ◌∙◌}
use Rattle.std.specs.List.{list_all, list_any}
use Rattle.std.proofs.lemmas.Bool.{false≢true, and_parts, or_cases, eqb-true}
use Rattle.rtx_tree.specs.Code.{class_of_code}
use Rattle.rtx_tree.specs.Registers.{virtual_stack_vars, is_call_used}
use Rattle.rtx_tree.specs.Tree.{head_of, kids_of, mentions_reg}
use Rattle.rtx_tree.specs.declared.code.Code.{Code}
use Rattle.rtx_tree.specs.declared.code.Code.TheVariants.{Parallel}
use Rattle.rtx_tree.specs.declared.function.ArgUse.{ArgUse}
use Rattle.rtx_tree.specs.declared.function.Function.{Function}
use Rattle.rtx_tree.specs.declared.function.Insn.{Insn}
use Rattle.rtx_tree.specs.declared.function.Kind.TheVariants as kind
use Rattle.rtx_tree.specs.declared.tree.Rtx.{Rtx}
use Rattle.rtl_func.specs.Calls.{is_argument, use_is_argument}
use Rattle.rtl_func.specs.Calls as rules
use Rattle.rtl_func.specs.Kinds.{kinds_agree, is_nothing_by}
use Rattle.rtl_func.specs.Modes.{shapes_agree}
use Rattle.rtl_func.specs.Shapes.{is_effect}
use Rattle.rtl_func.specs.Shapes as shapes
use Rattle.rtl_func.proofs.AllPass.{all_pass}
use Rattle.rtl_step.specs.Step.{is_mark}
use Rattle.reg_uses.specs.Effects.{effect_defines, effects_by}
use Rattle.reg_uses.specs.Uses.{insn_defines, has_argument, is_call_kind}
use Rattle.reload.specs.law_pass_needs.Reloadable.{IsInsnReloadable, IsReloadable}
use Rattle.reload.proofs.law_pass_needs.Places.{at_place}
use Rattle.law_window_lines.proofs.Small.{and_none}
use Rattle.law_reload_moves.specs.law_window_replaced.Natural.{RegistersAreNatural}
use Rattle.law_homes.specs.Stands.{has_home}
use Rattle.law_homes.specs.Placed.{label_by, names_constant, CanBePlaced}
use Rattle.law_reload.proofs.Natural.{natural_sized}
use Rattle.law_reload.proofs.Registers.{named, nothing_named}
use Rattle.law_reload.proofs.JumpLabels.{labels_constant}

-- ---- one instruction

pub handed : (uses : List ArgUse) (reg : ℕ) → list_all use_is_argument uses ≡ true →
    has_argument reg uses ≡ true → is_argument reg ≡ true
handed [] reg all has = absurd (false≢true has)
handed (u ∷ uses) reg all has =
    let both = and_parts (use_is_argument u) (list_all use_is_argument uses) all in
    elim (or_cases (u.reg == reg) (has_argument reg uses) has) [
      | inl here ↦ subst (λ r. is_argument r ≡ true) (eqb-true u.reg reg here) both.0
      | inr more ↦ handed uses reg both.1 more
    ]

nothing_by : (reg : ℕ) (c : Code) (parts : List Rtx) (x : Rtx) →
    is_nothing_by (class_of_code c) parts ≡ true →
    list_any (effect_defines reg) (effects_by c parts x) ≡ false
nothing_by reg Parallel [] x is = refl
nothing_by reg _ _ x is = absurd (false≢true is)

module _ (i : Insn) (is : IsInsnReloadable i) where
  -- an instruction within the table has the kind of its pattern, and is within it
  pub kind_agrees : is_mark i.kind ≡ false → kinds_agree i.kind i.pattern ≡ true
  kind_agrees none = (and_parts (kinds_agree i.kind i.pattern) _ (is.shaped none)).0

  pub shape_agrees : is_mark i.kind ≡ false → shapes_agree i.pattern ≡ true
  shape_agrees none =
      (and_parts (shapes_agree i.pattern) _ (and_parts (kinds_agree i.kind i.pattern) _
      (is.shaped none)).1).0

  within_table : is_mark i.kind ≡ false → all_pass shapes.is_shaped i.pattern ≡ true
  within_table none = (and_parts (is_effect i.pattern) (all_pass shapes.is_shaped i.pattern)
      (shape_agrees none)).1

  named_by : (b : Bool) (reg : ℕ) → is_mark i.kind ≡ b → mentions_reg reg i.pattern ≡ true →
      (reg ≡ virtual_stack_vars) ⊎ (has_home reg ≡ true)
  named_by true reg mark has = absurd (nothing_named reg i.pattern (is.empty mark) has)
  named_by false reg none has =
      named reg i.pattern (within_table none) is.natural
      (and_parts (all_pass rules.has_argument i.pattern) _ (is.arguments none)).0 has

  handed_by : (reg : ℕ) → i.kind ≡ kind.Call → has_argument reg i.uses ≡ true →
      is_argument reg ≡ true
  handed_by reg call has =
      handed i.uses reg (and_parts (all_pass rules.has_argument i.pattern) _
      (is.arguments (ap is_mark call))).1 has

  vars_by : insn_defines i virtual_stack_vars ≡ false
  vars_by = ap (λ b. b || (is_call_kind i.kind && is_call_used virtual_stack_vars)) is.vars ∙
      and_none (is_call_kind i.kind)

  labels_by : i.kind ≡ kind.Jump → names_constant (label_by (head_of i.pattern).code
      (kids_of i.pattern) i.pattern) ≡ true
  labels_by jump = labels_constant i.pattern (sym (ap (λ k. kinds_agree k i.pattern) jump) ∙
      kind_agrees (ap is_mark jump)) (within_table (ap is_mark jump))

-- ---- the function

pub can_be_placed : (f : Function) → IsReloadable f → CanBePlaced f
can_be_placed f is = record {
  sized = λ place i at. natural_sized i.pattern (at_place IsInsnReloadable f.insns is.each place i at).natural;
  named = λ place reg i at has. let one = at_place IsInsnReloadable f.insns is.each place i at in
      named_by i one (is_mark i.kind) reg refl has;
  passed = λ place reg i at call has. handed_by i (at_place IsInsnReloadable f.insns is.each place i
      at) reg call has;
  vars = λ place i at. vars_by i (at_place IsInsnReloadable f.insns is.each place i at);
  labels = λ place i at jump. labels_by i (at_place IsInsnReloadable f.insns is.each place i at)
      jump;
  marks = λ place reg i at mark. nothing_by reg (head_of i.pattern).code (kids_of i.pattern)
      i.pattern
      ((at_place IsInsnReloadable f.insns is.each place i at).empty mark);
}

pub registers_natural : (f : Function) → IsReloadable f → RegistersAreNatural f
registers_natural f is place i at = (at_place IsInsnReloadable f.insns is.each place i at).natural
