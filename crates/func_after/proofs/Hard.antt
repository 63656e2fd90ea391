-- Behind the frame a pass leaves a function that names registers of the machine alone one that does.
use Rattle.std.proofs.Common.{List, Ok, refl, subst}
use Rattle.std.specs.List.{AllByRecursion}
use Rattle.pass_name.specs.declared.pass.Pass.TheVariants.{Split2, Peephole2, Schedule}
use Rattle.pass_name.specs.declared.road.Road.{Road}
use Rattle.pass_name.specs.declared.road.Road.TheVariants.{Usual, Reusing, Scheduled}
use Rattle.pass_name.specs.Road.{behind_frame}
use Rattle.md_forms.specs.declared.form.Entry.{Entry}
use Rattle.md_dfa.specs.Pipeline.{pipeline_in}
use Rattle.md_dfa.proofs.LawfulLaws.{pipeline_lawful}
use Rattle.split.specs.Split.{SplitComes}
use Rattle.peep2.specs.Cover.{CoverComes}
use Rattle.schedule.proofs.KeptLaws as schedule
use Rattle.law_peepholes.specs.law_lines_ready.law_no_pseudos.Hard.{IsHardInsn, IsHardFunction}
use Rattle.law_peepholes.proofs.law_lines_ready.law_no_pseudos.Split.{split_again_hard}
use Rattle.law_peepholes.proofs.Hard.{peepholes_hard}
use Rattle.func_after.specs.declared.compilation.Compilation.{Compilation}
use Rattle.func_after.specs.declared.change.Change.{Change}
use Rattle.func_after.specs.After.{PassesCome}
use Rattle.func_after.specs.Leads.{IsDescribed}
use Rattle.func_after.proofs.Changes.{again_by, cover_by, schedule_by, changes_of}
use Rattle.func_after.proofs.Passing.{PassHolds, all_hold}

abbrev KeptHard : Compilation → Compilation → Type 0
KeptHard m n = IsHardFunction m.function → IsHardFunction n.function

module _ (forms : List Entry) (described : IsDescribed forms) where
  again_hard : PassHolds forms KeptHard Split2
  again_hard m n comes hard =
      let changes = changes_of forms m n Split2 (λ is. cc) (λ is. cc) comes in
      let c : Change = record { function = n.function; combined = changes.combined } in
      split_again_hard described.0 described.1 m.function n.function hard
      (subst (λ (es : List Entry). SplitComes es Split2 m.function (Ok n.function)) described.2 (again_by forms m.function c (Ok c) refl changes.comes))

  cover_hard : PassHolds forms KeptHard Peephole2
  cover_hard m n comes hard =
      let changes = changes_of forms m n Peephole2 (λ is. cc) (λ is. cc) comes in
      let c : Change = record { function = n.function; combined = changes.combined } in
      peepholes_hard described.0 described.1 m.function n.function hard
      (subst (λ (es : List Entry). CoverComes es m.function (Ok n.function)) described.2 (cover_by forms m.function c (Ok c) refl changes.comes))

  schedule_hard : PassHolds forms KeptHard Schedule
  schedule_hard m n comes hard =
      let changes = changes_of forms m n Schedule (λ is. cc) (λ is. cc) comes in
      let c : Change = record { function = n.function; combined = changes.combined } in
      let made = schedule_by forms m.function c (Ok c) refl changes.comes in
      schedule.each_kept forms (pipeline_in forms) (pipeline_lawful forms) IsHardInsn m.function n.function made.0 made.1 hard

  each_hard : (road : Road) → AllByRecursion (PassHolds forms KeptHard) (behind_frame road)
  each_hard Usual = (again_hard, (cover_hard, tt))
  each_hard Reusing = (again_hard, (cover_hard, tt))
  each_hard Scheduled = (again_hard, (cover_hard, (schedule_hard, tt)))

  pub behind_hard : (road : Road) (m n : Compilation) → PassesCome forms (behind_frame road) m (Ok n) → IsHardFunction m.function → IsHardFunction n.function
  behind_hard road m n comes = all_hold forms KeptHard (λ m hard. hard) (λ l m n first second hard. second (first hard)) (behind_frame road) m n (Ok n) refl (each_hard road) comes
