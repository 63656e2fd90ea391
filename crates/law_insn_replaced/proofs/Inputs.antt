-- A function that keeps the rules, whose uids differ and whose registers have natural numbers, is one in which instructions can be replaced.
use Rattle.std.proofs.Common.{◌≡◌, ℕ, Bool, true, false, List, Some, refl, sym, ap, ◌∙◌, inl, inr}
use Rattle.std.specs.Prelude.{slice_get}
use Rattle.std.proofs.lemmas.Bool.{false≢true, true≢false, and_parts, and_from}
use Rattle.rtx_tree.specs.Code.{class_of_code}
use Rattle.rtx_tree.specs.Patterns.{nothing_rtx}
use Rattle.rtx_tree.specs.Registers.{virtual_stack_vars}
use Rattle.rtx_tree.specs.declared.function.Insn.{Insn}
use Rattle.rtx_tree.specs.declared.function.Function.{Function}
use Rattle.rtx_tree.specs.declared.function.Kind.{Kind}
use Rattle.rtx_tree.specs.declared.function.Kind.TheVariants as kind
use Rattle.rtx_tree.specs.declared.tree.Rtx.{Rtx, out-roll-Rtx}
use Rattle.rtx_tree.specs.declared.tree.Rtx.TheOpen.{Rtx-F}
use Rattle.rtl_step.specs.Step.{is_mark}
use Rattle.rtl_func.specs.Calls.{argument_registers, calls_agree, call_result_agrees, call_target_agrees}
use Rattle.rtl_func.specs.Effects.{parallels_agree, parallels_hold_simple, parallels_change_once, stack_variables}
use Rattle.rtl_func.specs.Kinds.{kinds_agree, is_nothing_by, is_nothing}
use Rattle.rtl_func.specs.Modes.{modes_agree, shapes_agree, call_modes_agree}
use Rattle.rtl_func.specs.Uids.{is_ruled_kind}
use Rattle.rtl_func.specs.declared.rules.InsnRule.TheVariants.{KindsAgree, ModesAgree, ArgumentRegisters, Calls, Parallels, StackVariables}
use Rattle.law_pass_needs.specs.sym_insns.Shape.{is_shaped, all_natural}
use Rattle.law_pass_needs.specs.law_rules.Admitted.{IsWellFormed}
use Rattle.law_pass_needs.specs.law_rules.Sorts as sorts
use Rattle.law_pass_needs.specs.law_rules.Sorts.{IsSort}
use Rattle.law_pass_needs.proofs.law_rules.AllSorts.{sort_of}
use Rattle.law_pass_needs.proofs.law_rules.Marks.{marks_are_empty}
use Rattle.law_pass_needs.proofs.law_rules.Vars.{leaves_vars}
use Rattle.law_pass_needs.specs.Reloadable.{IsInsnReloadable, LeadsWithin, UidsDiffer}
use Rattle.law_pass_needs.proofs.Places.{all_at}
use Rattle.law_pass_needs.proofs.Ready.{well_formed_ready}
use Rattle.law_insn_replaced.specs.Sound.{IsSound}

-- what is no mark is no barrier
ruled : (k : Kind) → is_mark k ≡ false → is_ruled_kind k ≡ true
ruled kind.Plain none = refl
ruled kind.Jump none = refl
ruled kind.Call none = refl
ruled kind.Label none = absurd (true≢false none)
ruled kind.Barrier none = absurd (true≢false none)

-- a barrier holds nothing
nothing_is : is_nothing nothing_rtx ≡ true
nothing_is = ap (λ (o : Rtx-F Rtx). is_nothing_by (class_of_code o.code) o.kids) (out-roll-Rtx _)

-- ---- an instruction that keeps the rules

module _ (i : Insn) (none : is_mark i.kind ≡ false) (natural : all_natural i.pattern ≡ true) where
  -- what the rules say of it, in a function with so many bytes of locals
  pub record KeepsRules (locals : ℕ) : Type 0 where
    pub kinds : kinds_agree i.kind i.pattern ≡ true
    pub modes : modes_agree i.pattern ≡ true
    pub arguments : argument_registers i.pattern i.uses ≡ true
    pub calls : calls_agree i.kind i.pattern i.uses ≡ true
    pub parallels : parallels_agree i.pattern ≡ true
    pub vars : stack_variables locals i.pattern ≡ true

  module _ (locals : ℕ) (rules : KeepsRules locals) where
    shapes : shapes_agree i.pattern ≡ true
    shapes = (and_parts (shapes_agree i.pattern) (call_modes_agree i.pattern) rules.modes).0

    shaped : is_shaped i ≡ true
    shaped =
        let results = (and_parts (call_result_agrees i.kind i.pattern i.uses) (call_target_agrees i.kind i.pattern) rules.calls).0 in
        let simple = (and_parts (parallels_hold_simple i.pattern) (parallels_change_once i.pattern) rules.parallels).0 in
        and_from (kinds_agree i.kind i.pattern) _ rules.kinds
        (and_from (shapes_agree i.pattern) _ shapes
        (and_from (all_natural i.pattern) _ natural
        (and_from (call_result_agrees i.kind i.pattern i.uses) (parallels_hold_simple i.pattern) results simple)))

    pub rules_reloadable : IsInsnReloadable i
    rules_reloadable = record {
      shaped = λ none. shaped;
      empty = λ mark. absurd (true≢false (sym mark ∙ none));
      natural = natural;
      arguments = λ none. rules.arguments;
      vars = leaves_vars locals i.pattern shapes rules.vars;
    }

-- ---- a function that keeps them

module _ (f : Function) (rules : IsWellFormed f) (natural : (place : ℕ) (i : Insn) → slice_get f.insns place ≡ Some i → all_natural i.pattern ≡ true)
    (place : ℕ) (i : Insn) (at : slice_get f.insns place ≡ Some i) where
  keeps_rules : (none : is_mark i.kind ≡ false) → KeepsRules i none (natural place i at) f.locals
  keeps_rules none = let is = ruled i.kind none in record {
    kinds = rules.keep KindsAgree place i at is;
    modes = rules.keep ModesAgree place i at is;
    arguments = rules.keep ArgumentRegisters place i at is;
    calls = rules.keep Calls place i at is;
    parallels = rules.keep Parallels place i at is;
    vars = rules.keep StackVariables place i at is;
  }

  empty_by : (k : Kind) → i.kind ≡ k → is_mark k ≡ true → is_nothing i.pattern ≡ true
  empty_by kind.Label is mark = sym (ap (λ k. kinds_agree k i.pattern) is) ∙ rules.keep KindsAgree place i at (ap is_ruled_kind is)
  empty_by kind.Barrier is mark = ap is_nothing (rules.barriers place i at is) ∙ nothing_is
  empty_by kind.Plain is mark = absurd (false≢true mark)
  empty_by kind.Jump is mark = absurd (false≢true mark)
  empty_by kind.Call is mark = absurd (false≢true mark)

  mark_reloadable : is_mark i.kind ≡ true → IsInsnReloadable i
  mark_reloadable mark = record {
    shaped = λ none. absurd (true≢false (sym mark ∙ none));
    empty = empty_by i.kind refl;
    natural = natural place i at;
    arguments = λ none. absurd (true≢false (sym mark ∙ none));
    vars = marks_are_empty f rules place virtual_stack_vars i at mark;
  }

  insn_reloadable : (mark : Bool) → is_mark i.kind ≡ mark → IsInsnReloadable i
  insn_reloadable true is = mark_reloadable is
  insn_reloadable false is = rules_reloadable i is (natural place i at) f.locals (keeps_rules is)

-- a jump is a return, or leads to a label that stands
sort_leads : (insns : List Insn) (i : Insn) → IsSort insns i → LeadsWithin insns i
sort_leads insns i (sorts.returns is back) jump = inl back
sort_leads insns i (sorts.jumps is leads) jump = inr leads
sort_leads insns i (sorts.label is empty) jump = absurd (let both : kind.Label ≡ kind.Jump = sym is ∙ jump in let none : ⊥ = cc in none)
sort_leads insns i (sorts.barrier is empty) jump = absurd (let both : kind.Barrier ≡ kind.Jump = sym is ∙ jump in let none : ⊥ = cc in none)
sort_leads insns i (sorts.sets is code) jump = absurd (let both : kind.Plain ≡ kind.Jump = sym is ∙ jump in let none : ⊥ = cc in none)
sort_leads insns i (sorts.uses is code) jump = absurd (let both : kind.Plain ≡ kind.Jump = sym is ∙ jump in let none : ⊥ = cc in none)
sort_leads insns i (sorts.clobbers is code) jump = absurd (let both : kind.Plain ≡ kind.Jump = sym is ∙ jump in let none : ⊥ = cc in none)
sort_leads insns i (sorts.at_once is code) jump = absurd (let both : kind.Plain ≡ kind.Jump = sym is ∙ jump in let none : ⊥ = cc in none)
sort_leads insns i (sorts.calls is tree) jump = absurd (let both : kind.Call ≡ kind.Jump = sym is ∙ jump in let none : ⊥ = cc in none)

pub input_sound : (f : Function) → IsWellFormed f → UidsDiffer f →
    ((place : ℕ) (i : Insn) → slice_get f.insns place ≡ Some i → all_natural i.pattern ≡ true) → IsSound f
input_sound f rules uids natural = record {
  ready = well_formed_ready f rules;
  reloadable = record {
    each = all_at IsInsnReloadable f.insns (λ place i at. insn_reloadable f rules natural place i at (is_mark i.kind) refl);
    jumps = all_at (LeadsWithin f.insns) f.insns (λ place i at. sort_leads f.insns i (sort_of f rules place i at));
    uids = uids;
  };
}
