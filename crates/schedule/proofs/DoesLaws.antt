-- A function whose regions are put in order does what it did.
use Rattle.std.proofs.Common.{◌≡◌, ℕ, suc, true, false, List, [], ◌∷◌, Some, refl}
use Rattle.std.specs.Prelude.{slice_get}
use Rattle.std.specs.List.{AllByRecursion}
use Rattle.rtx_tree.specs.declared.function.Insn.{Insn}
use Rattle.rtx_tree.specs.declared.function.Function.{Function}
use Rattle.rtl_step.specs.Step.{is_mark}
use Rattle.reg_uses.specs.Effects.{pattern_defines}
use Rattle.law_insn_replaced.specs.sym_insns.Shape.{all_natural}
use Rattle.md_forms.specs.declared.form.Entry.{Entry}
use Rattle.md_dfa.specs.Lawful.{AreLawful}
use Rattle.md_dfa.specs.declared.pipeline.Pipeline.{Pipeline}
use Rattle.law_function_kept.specs.Keeps.{Keeps}
use Rattle.law_kept_composed.proofs.Keeping.{keeps_refl, keeps_trans}
use Rattle.law_pass_needs.proofs.Places.{at_place}
use Rattle.law_window_put.proofs.Does.{window_does}
use Rattle.schedule.specs.declared.plan.CycleOf.{CycleOf}
use Rattle.schedule.specs.Schedule.{region_end, put_in, Scheduled}
use Rattle.law_insn_replaced.specs.law_window_lines.ForLines.{MarksAreEmpty}
use Rattle.law_window_replaced.specs.Natural.{RegistersAreNatural}
use Rattle.schedule.proofs.KeptLaws.{StaysPut, kept, each_put}

-- a label and a barrier define nothing, and no register has a number below 0
record IsReadable (i : Insn) : Type 0 where
  pub marks : is_mark i.kind ≡ true → (reg : ℕ) → pattern_defines reg i.pattern ≡ false
  pub natural : all_natural i.pattern ≡ true

abbrev AreReadable : Function → Type 0
AreReadable f = AllByRecursion IsReadable f.insns

all_at : (P : Insn → Type 0) (insns : List Insn) → ((k : ℕ) (i : Insn) → slice_get insns k ≡ Some i → P i) → AllByRecursion P insns
all_at P [] each = tt
all_at P (i ∷ insns) each = (each 0 i refl, all_at P insns (λ k j at. each (suc k) j at))

module _ (forms : List Entry) (p : Pipeline) (lawful : AreLawful p) (f : Function) where
  record Does (g : Function) : Type 0 where
    keeps : Keeps f g
    readable : AreReadable g

  does_step : StaysPut forms p Does
  does_step h place q planned put so_far = record {
    keeps = keeps_trans f h (put_in h place q) so_far.keeps
        (window_does h place (region_end h place) q.insns put
        (λ at reg i there mark. (at_place IsReadable h.insns so_far.readable at i there).marks mark reg)
        (λ at i there. (at_place IsReadable h.insns so_far.readable at i there).natural));
    readable = each_put forms p lawful IsReadable h place q planned put so_far.readable;
  }

  pub schedule_does : (g : Function) (cycles : List CycleOf) → MarksAreEmpty f → RegistersAreNatural f → Scheduled forms p f cycles g → Keeps f g
  schedule_does g cycles marks natural comes =
      let readable : AreReadable f = all_at IsReadable f.insns (λ k i at. record { marks = λ mark reg. marks k reg i at mark; natural = natural k i at }) in
      (kept forms p Does does_step f g cycles comes (record { keeps = keeps_refl f; readable = readable })).keeps
