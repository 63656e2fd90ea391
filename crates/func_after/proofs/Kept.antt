-- A function keeps its name through the passes.
use Rattle.std.proofs.Common.{◌≡◌, List, Ok, refl, sym, ap, subst, ◌∙◌}
use Rattle.rtx_tree.specs.declared.function.Function.{Function}
use Rattle.pass_name.specs.declared.pass.Pass.{Pass}
use Rattle.pass_name.specs.declared.road.Road.{Road}
use Rattle.pass_name.specs.Road.{passes_of}
use Rattle.pass_name.specs.declared.pass.Pass.TheVariants.{Split1, Split2}
use Rattle.md_forms.specs.declared.form.Entry.{Entry}
use Rattle.md_dfa.specs.Pipeline.{pipeline_in}
use Rattle.lower.specs.Lower.{LowerComes}
use Rattle.lower.proofs.Kept.{lower_same}
use Rattle.reuse.proofs.Kept as reuse
use Rattle.combine.proofs.Kept.{steps_same}
use Rattle.split.specs.Split.{SplitComes}
use Rattle.split.proofs.Kept.{same_marks}
use Rattle.peep2.specs.Cover.{CoverComes}
use Rattle.peep2.proofs.Sound.{cover_same}
use Rattle.schedule.proofs.KeptLaws as schedule
use Rattle.assign.specs.Frame.{layout_of}
use Rattle.reload.specs.Reload.{FunctionReloads}
use Rattle.reload.proofs.Marks.{reload_marks}
use Rattle.frame.proofs.Kept.{frame_marks}
use Rattle.func_after.specs.declared.change.Change.{Change}
use Rattle.func_after.specs.declared.compilation.Compilation.{Compilation}
use Rattle.func_after.specs.After.{Answer, Changed, as_read, ChangeComes, PassMakes, AfterComes}
use Rattle.func_after.proofs.Changes.{plain_is, makes_of, changed_by, reload_told, frame_told}
use Rattle.func_after.proofs.Passing.{PassHolds, all_hold, every}

module _ (forms : List Entry) where
  -- a line a pass
  change_name : (f : Function) (pass : Pass) (c : Change) (a : Changed) → a ≡ Ok c → ChangeComes forms f pass a → c.function.name ≡ f.name
  change_name f _ c _ is ChangeComes.reads = let same : record { function = f; combined = 0 } ≡ c = cc in sym (ap (λ (d : Change). d.function.name) same)
  change_name f _ c _ is (ChangeComes.lowers r comes) =
      (lower_same forms f c.function (subst (LowerComes forms f) (plain_is r c is) comes)).name_is
  change_name f _ c _ is (ChangeComes.reuses n g comes) =
      let same : record { function = g; combined = 0 } ≡ c = cc in
      sym (ap (λ (d : Change). d.function.name) same) ∙ (reuse.steps_same forms n f g comes.steps).name_is
  change_name f _ c _ is (ChangeComes.combines n g comes) =
      let same : record { function = g; combined = n } ≡ c = cc in
      sym (ap (λ (d : Change). d.function.name) same) ∙ (steps_same forms n f g comes.0).name_is
  change_name f _ c _ is (ChangeComes.splits_first r comes) =
      (same_marks forms Split1 f c.function (subst (SplitComes forms Split1 f) (plain_is r c is) comes)).name_is
  change_name f _ c _ is (ChangeComes.splits_again r comes) =
      (same_marks forms Split2 f c.function (subst (SplitComes forms Split2 f) (plain_is r c is) comes)).name_is
  change_name f _ c _ is (ChangeComes.covers r comes) =
      (cover_same forms f c.function (subst (CoverComes forms f) (plain_is r c is) comes)).name_is
  change_name f _ c _ is (ChangeComes.schedules cycles g comes) =
      let same : record { function = g; combined = 0 } ≡ c = cc in
      sym (ap (λ (d : Change). d.function.name) same)
      ∙ schedule.kept forms (pipeline_in forms) (λ (h : Function). h.name ≡ f.name) (λ h place plan planned put so_far. so_far) f g cycles comes refl
  change_name f _ c _ is ChangeComes.writes = let same : record { function = f; combined = 0 } ≡ c = cc in sym (ap (λ (d : Change). d.function.name) same)

  pass_name : (m n : Compilation) (pass : Pass) (a : Answer) → a ≡ Ok n → PassMakes forms m pass a → n.function.name ≡ m.function.name
  pass_name m n _ a is (PassMakes.changes pass c _ comes told) =
      let changes = changed_by forms m n pass c (sym is ∙ told) comes in
      change_name m.function pass (record { function = n.function; combined = changes.combined })
      (Ok (record { function = n.function; combined = changes.combined })) refl changes.comes
  pass_name m n _ a is (PassMakes.reloads homes r _ are does told) =
      let gave = reload_told forms m n m.function.name m.combined (layout_of m.function homes) r (sym is ∙ told) in
      (reload_marks forms homes (layout_of m.function homes) m.function n.function
      (subst (FunctionReloads forms homes (layout_of m.function homes) m.function) gave.0 does)).name_is
  pass_name m n _ a is (PassMakes.frames r _ comes told) =
      (frame_marks forms m.function n.function m.layout (frame_told forms m n r (sym is ∙ told) comes).comes).name_is

abbrev Named : Compilation → Compilation → Type 0
Named m n = n.function.name ≡ m.function.name

-- a function keeps its name
pub after_name : (forms : List Entry) (road : Road) (f : Function) (m : Compilation) → AfterComes forms road f (Ok m) → m.function.name ≡ f.name
after_name forms road f m comes =
    all_hold forms Named (λ m. refl) (λ l m n first second. second ∙ first) (passes_of road) (as_read f) m (Ok m) refl
    (every (PassHolds forms Named) (λ pass m n comes. pass_name forms m n pass (Ok n) refl (makes_of forms m n pass (Ok n) refl comes)) (passes_of road)) comes
