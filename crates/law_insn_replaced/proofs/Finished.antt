-- A chain with the return at its end keeps a function: its runs are the same, and none of them returns past the return.
use Rattle.std.proofs.Common.{◌≡◌, ◌≢◌, ℕ, zero, suc, ◌+◌, ◌≤◌, ◌==◌, not, arith, if◌then◌else◌, Bool, true, false, List, [], ◌∷◌, ◌++◌, Option, Some, None, refl, sym, ap, subst, ◌∙◌, append-nil, inl}
use Rattle.std.specs.Prelude.{pos, slice_get, filter, is_some}
use Rattle.std.specs.List.{AllByRecursion, IsDistinct}
use Rattle.std.proofs.lemmas.Bool.{false≢true}
use Rattle.std.proofs.lemmas.List.Elements.{filter-append}
use Rattle.rtx_tree.specs.declared.code.Code.TheVariants as code
use Rattle.rtx_tree.specs.declared.code.Mode.TheVariants.{Void}
use Rattle.rtx_tree.specs.declared.function.Insn.{Insn}
use Rattle.rtx_tree.specs.declared.function.Function.{Function}
use Rattle.rtx_tree.specs.declared.function.Kind.TheVariants as kind
use Rattle.rtx_tree.specs.declared.machine.Start.{Start}
use Rattle.rtx_tree.specs.declared.machine.World.{World}
use Rattle.rtx_tree.specs.declared.tree.Rtx.{Rtx, out-roll-Rtx}
use Rattle.rtx_tree.specs.declared.tree.Rtx.TheOpen.{Rtx-F}
use Rattle.rtx_tree.specs.Patterns.{return_rtx}
use Rattle.rtl_func.specs.declared.rules.InsnRule.TheVariants.{KindsAgree, ModesAgree, ArgumentRegisters, Calls, Parallels, StackVariables}
use Rattle.rtl_func.specs.Uids.{uids_of}
use Rattle.rtl_step.specs.Step.{Stepped, step, is_mark, place_from}
use Rattle.rtl_step.specs.declared.step.State.{State}
use Rattle.func_run.specs.Run.{run_of, taken, entry_of, goes_on}
use Rattle.rtl_chain.specs.Counts.{greatest_uid}
use Rattle.rtl_chain.specs.End.{return_insn, IsFinished}
use Rattle.reg_uses.specs.Uses.{is_return_code, is_return}
use Rattle.rtx_open.proofs.Expressions.{node, none, gathers}
use Rattle.law_pass_needs.specs.sym_insns.Shape.{natural_step, all_natural}
use Rattle.law_function_kept.specs.Ends.{is_past, ends_past}
use Rattle.law_function_kept.specs.Keeps.{Keeps, KeepsRun}
use Rattle.law_function_kept.specs.Outcomes.{SameOutcome}
use Rattle.law_window_replaced.proofs.law_kept_composed.Keeping.{outcome_refl}
use Rattle.law_pass_needs.proofs.law_rules.Added.{return_keeps}
use Rattle.law_pass_needs.proofs.law_rules.Chain.{before_end}
use Rattle.law_pass_needs.proofs.law_rules.Returning.{longer, dropped_end, same_step, same_run, same_taken}
use Rattle.law_pass_needs.specs.Left.{marks, SameMarks}
use Rattle.law_pass_needs.specs.Reloadable.{IsInsnReloadable, LeadsWithin, IsReloadable, UidsDiffer}
use Rattle.law_pass_needs.proofs.Places.{all_joined}
use Rattle.law_pass_needs.proofs.Ready.{all_finished}
use Rattle.law_insn_replaced.specs.Sound.{IsSound, PassKeeps}
use Rattle.law_insn_replaced.proofs.Inputs.{rules_reloadable}
use Rattle.law_insn_replaced.proofs.Keeping.{kept_refl}
use Rattle.law_insn_replaced.proofs.Labels.{all_within_too}
use Rattle.law_insn_replaced.proofs.Uids.{insert, above_all, uids_append, low_uids}

-- ---- the end of the runs

module _ (f : Function) where
  abbrev finished : Function
  finished = longer f (return_insn f.insns) refl refl

  past_by : (p : ℕ) (o : Option Insn) → slice_get f.insns p ≡ o → not (is_some (slice_get finished.insns p)) ≡ true → not (is_some o) ≡ true
  past_by p None at past = refl
  past_by p (Some i) at past =
      absurd (false≢true (sym (ap (λ o. not (is_some o)) (before_end f.insns (return_insn f.insns) p i at)) ∙ past))

  -- past the return is past the last instruction
  past_too : (s : State) → is_past finished s ≡ true → is_past f s ≡ true
  past_too s past =
      past_by (place_from f.insns s.next) (slice_get f.insns (place_from f.insns s.next)) refl
      (sym (ap (λ p. not (is_some (slice_get finished.insns p))) (dropped_end f.insns (return_insn f.insns) s.next s.next refl)) ∙ past)

  module _ (world : World) where
    on_by : (n : ℕ) (b : Bool) (s s' : State) → (ends_past world finished n s' ≡ true → ends_past world f n s' ≡ true) →
        (if b then ends_past world finished n s' else is_past finished s) ≡ true → (if b then ends_past world f n s' else is_past f s) ≡ true
    on_by n true s s' rest is = rest is
    on_by n false s s' rest is = past_too s is

    ends_too : (n : ℕ) (s : State) → ends_past world finished n s ≡ true → ends_past world f n s ≡ true
    ends_too zero s is = is
    ends_too (suc n) s is =
        let e = step world f s in
        on_by n (goes_on e.0) s e.1 (ends_too n e.1)
        (sym (ap (λ (x : Stepped). if goes_on x.0 then ends_past world finished n x.1 else is_past finished s) (same_step f (return_insn f.insns) refl refl world s)) ∙ is)

  finished_runs : (start : Start) (world : World) (n : ℕ) → KeepsRun f finished start world n
  finished_runs start world n some =
      let runs : run_of finished start world n ≡ run_of f start world n = same_run f (return_insn f.insns) refl refl world n (entry_of start) in
      let takes : taken finished start world n ≡ taken f start world n = same_taken f (return_insn f.insns) refl refl world n (entry_of start) in (
        n,
        omega (arith, takes),
        subst (SameOutcome (run_of f start world n)) (sym runs) (outcome_refl (run_of f start world n) some),
        λ ends. ends_too world n (entry_of start) ends,
      )

  keeps_finished : Keeps f finished
  keeps_finished = record { locals_are = refl; result_is = refl; runs = λ start world n is_start is_world. finished_runs start world n }

  -- ---- the return

  return_natural : all_natural return_rtx ≡ true
  return_natural = gathers natural_step (node code.Return Void (pos 0) [] none)

  return_reloadable : IsInsnReloadable (return_insn f.insns)
  return_reloadable = rules_reloadable (return_insn f.insns) refl return_natural f.locals (record {
    kinds = return_keeps f f.insns KindsAgree;
    modes = return_keeps f f.insns ModesAgree;
    arguments = return_keeps f f.insns ArgumentRegisters;
    calls = return_keeps f f.insns Calls;
    parallels = return_keeps f f.insns Parallels;
    vars = return_keeps f f.insns StackVariables;
  })

  uids_finished : UidsDiffer f → UidsDiffer finished
  uids_finished differ =
      let all = uids_of f.insns in
      let none : all ++ [] ≡ all = append-nil all in
      subst (IsDistinct ◌==◌) (sym (uids_append f.insns (return_insn f.insns ∷ [])))
      (insert (greatest_uid f.insns + 1) all []
      (subst (λ (us : List ℕ). AllByRecursion (λ y. (greatest_uid f.insns + 1 == y) ≡ false) us) (sym none) (above_all (greatest_uid f.insns) all (low_uids f.insns)))
      (subst (IsDistinct ◌==◌) (sym none) differ))

  same_longer : SameMarks f finished
  same_longer = record {
    name_is = refl;
    marks_are = filter-append (λ (i : Insn). is_mark i.kind) f.insns (return_insn f.insns ∷ []) ∙ append-nil (marks f.insns);
    locals_are = refl;
    result_is = refl;
    result_reg_is = refl;
  }

  returns_back : is_return (return_insn f.insns) ≡ true
  returns_back = ap (λ (o : Rtx-F Rtx). is_return_code o.code) (out-roll-Rtx _)

  kept_longer : IsReloadable f → IsReloadable finished
  kept_longer is = record {
    each = all_joined IsInsnReloadable f.insns (return_insn f.insns ∷ []) is.each (return_reloadable, tt);
    jumps = all_joined (LeadsWithin finished.insns) f.insns (return_insn f.insns ∷ [])
        (all_within_too f.insns finished.insns f.insns same_longer.marks_are is.jumps) (λ jump. inl returns_back, tt);
    uids = uids_finished is.uids;
  }

-- a function with its finished chain is kept
pub finished_kept : (f : Function) (chain : List Insn) → IsSound f → IsFinished f.insns chain → PassKeeps f (record f { insns = chain })
finished_kept f _ sound (IsFinished.returning reached) = record {
  keeps = keeps_finished f;
  sound = record {
    ready = all_finished f.insns (f.insns ++ return_insn f.insns ∷ []) (IsFinished.returning reached) sound.ready;
    reloadable = kept_longer f sound.reloadable;
  };
  same = same_longer f;
}
finished_kept f _ sound (IsFinished.staying never) = kept_refl f sound
