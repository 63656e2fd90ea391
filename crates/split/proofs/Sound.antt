-- A function that is split does what it did; and where registers have no homes yet, it is kept.
use Rattle.std.proofs.Common.{◌≡◌, ⊎_elim, ℕ, Bool, true, false, List, Ok, Option, Some, None, refl, sym, subst, ◌∙◌}
use Rattle.std.specs.Prelude.{option_and_then, if◌then◌else◌}
use Rattle.std.specs.List.{AllByRecursion}
use Rattle.std.proofs.lemmas.Bool.{true≢false}
use Rattle.rtx_tree.specs.declared.tree.Rtx.{Rtx}
use Rattle.rtx_tree.specs.declared.function.Insn.{Insn}
use Rattle.rtx_tree.specs.declared.function.Function.{Function}
use Rattle.rtl_chain.specs.Counts.{next_pseudo}
use Rattle.md_forms.specs.declared.form.Entry.{Entry}
use Rattle.md_forms.specs.Forms.{names_of}
use Rattle.md_emit.specs.Emitted.{emitted_by, keeps_to_arguments}
use Rattle.gen_emit.specs.declared.emission.Emission.{Emission}
use Rattle.form_needs.specs.Needs.{lower_facts, name_at}
use Rattle.law_function_kept.specs.Keeps.{Keeps}
use Rattle.law_kept_composed.proofs.Keeping.{keeps_refl, keeps_trans}
use Rattle.law_insn_replaced.specs.law_window_lines.ForLines.{MarksAreEmpty}
use Rattle.law_insn_replaced.specs.insn_replace.Replace.{made, ReplacedComes}
use Rattle.law_insn_replaced.specs.Sound.{IsSound, PassKeeps}
use Rattle.law_insn_replaced.proofs.Keeping.{Keep, each_keeps, insn_kept, replaced_does, kept_refl, kept_trans}
use Rattle.law_insn_replaced.proofs.Marks.{no_mark}
use Rattle.pass_name.specs.declared.pass.Pass.{Pass}
use Rattle.pass_name.specs.declared.pass.Pass.TheVariants.{Split1}
use Rattle.split.specs.Left.{StandsIn, AreNatural}
use Rattle.split.specs.Split.{admitted, IsSplit, SplitComes}
use Rattle.split.proofs.Insns.{In}
use Rattle.split.proofs.Kept.{made_kind, parts_of, natural_step}
use Rattle.split.proofs.Left.{IsKept, kept}

-- ---- what an admitted sequence names

given : (e : Emission) (sequence : List Rtx) → admitted Split1 e ≡ Some sequence → keeps_to_arguments sequence ≡ true
given e sequence is = by (keeps_to_arguments e.sequence) refl is
  where
    by : (b : Bool) → keeps_to_arguments e.sequence ≡ b → (if b then Some e.sequence else None) ≡ Some sequence → keeps_to_arguments sequence ≡ true
    by true keep same = let is : e.sequence ≡ sequence = cc in subst (λ s. keeps_to_arguments s ≡ true) is keep
    by false keep same = absurd (let none : ⊥ = cc in none)

given_in : (o : Option Emission) (sequence : List Rtx) → option_and_then (admitted Split1) o ≡ Some sequence → keeps_to_arguments sequence ≡ true
given_in None sequence is = absurd (let none : ⊥ = cc in none)
given_in (Some e) sequence is = given e sequence is

-- ---- what the function does

module _ (forms : List Entry) (pass : Pass) where
  -- what is known of a function that was split
  record Does (f g : Function) : Type 0 where
    keeps : Keeps f g
    marks : MarksAreEmpty g
    natural : AreNatural g

  marks_stay : (g h : Function) (place : ℕ) (i : Insn) (rule : List ℕ) (sequence : List Rtx) → ReplacedComes g place i rule sequence (Ok h) →
      MarksAreEmpty g → MarksAreEmpty h
  marks_stay g h place i rule sequence comes marks p reg j there mark = ⊎_elim
      (λ (old : StandsIn g j). marks old.0 reg j old.1 mark)
      (λ (new : In (made g i sequence) j). absurd (true≢false (sym mark ∙ no_mark j.kind (made_kind g i sequence j new))))
      (parts_of forms pass g h place i rule sequence j comes (p, there))

  does_step : (f : Function) → IsKept forms pass (Does f)
  does_step f g h place i form sequence at is comes so_far = record {
    keeps = keeps_trans f g h so_far.keeps
        (replaced_does g place i (name_at (names_of forms) form) sequence h so_far.marks (λ p j there. so_far.natural j (p, there)) at comes);
    marks = marks_stay g h place i (name_at (names_of forms) form) sequence comes so_far.marks;
    natural = natural_step forms pass g h place i form sequence at is comes so_far.natural;
  }

  pub split_does : (f g : Function) → MarksAreEmpty f → AreNatural f → SplitComes forms pass f (Ok g) → Keeps f g
  split_does f g marks natural comes =
      (kept forms pass (Does f) (does_step f) f g comes (record { keeps = keeps_refl f; marks = marks; natural = natural })).keeps

-- ---- before registers have homes

module _ (forms : List Entry) where
  split_keeps : (next : ℕ) (i : Insn) (form : ℕ) (sequence : List Rtx) → IsSplit forms Split1 next i form sequence → AllByRecursion Keep sequence
  split_keeps next i form sequence is =
      each_keeps sequence (given_in (emitted_by forms lower_facts form is.splits.operands next) sequence is.splits.gives)

  -- ---- functions

  kept_step : (f : Function) → IsKept forms Split1 (PassKeeps f)
  kept_step f g h place i form sequence at is comes so_far =
      kept_trans f g h so_far
      (insn_kept g place i (name_at (names_of forms) form) sequence h so_far.sound at is.splits.instruction
      (split_keeps (next_pseudo g.insns) i form sequence is) comes)

  pub split_kept : (f g : Function) → IsSound f → SplitComes forms Split1 f (Ok g) → PassKeeps f g
  split_kept f g sound comes = kept forms Split1 (PassKeeps f) (kept_step f) f g comes (kept_refl f sound)
