-- What the passes make of a sound function leads to lines with its behaviour.
use Rattle.std.proofs.Common.{◌≡◌, ℕ, ◌≤◌, List, Result, Ok, refl, sym, ap, subst, ◌∙◌}
use Rattle.std.specs.List.{AllByRecursion}
use Rattle.rtx_tree.specs.Limit.{most_frame}
use Rattle.rtx_tree.specs.declared.function.Function.{Function}
use Rattle.pass_name.specs.declared.pass.Pass.{Pass}
use Rattle.pass_name.specs.declared.pass.Pass.TheVariants.{Read, Lower, Reuse, Combine, Split1, Reload, Frame, Split2, Peephole2, Schedule}
use Rattle.pass_name.specs.declared.road.Road.{Road}
use Rattle.pass_name.specs.declared.road.Road.TheVariants.{Usual, Reusing, Scheduled}
use Rattle.pass_name.specs.Road.{before_homes, behind_frame}
use Rattle.rv_text.specs.declared.line.CodeItem.{CodeItem}
use Rattle.md_forms.specs.declared.form.Entry.{Entry}
use Rattle.md_forms.specs.Forms.{forms_of}
use Rattle.md_dfa.specs.Pipeline.{pipeline_in}
use Rattle.md_dfa.proofs.LawfulLaws.{pipeline_lawful}
use Rattle.same_behaviour.specs.Same.{Same}
use Rattle.law_window_lines.specs.Left.{SameWhereLeft}
use Rattle.assign.specs.Frame.{layout_of, IsFrame}
use Rattle.assign.specs.declared.places.Layout.{Layout}
use Rattle.assign.proofs.PlaceLaws.{IsFrame-layout_of}
use Rattle.pass_refusal.specs.declared.refusal.PassRefusal.{PassRefusal}
use Rattle.law_passes.specs.law_insn_replaced.Sound.{IsSound, PassKeeps}
use Rattle.law_passes.proofs.law_insn_replaced.Keeping.{kept_refl, kept_trans}
use Rattle.lower.proofs.Kept.{lower_kept}
use Rattle.reuse.proofs.Kept as reuse
use Rattle.combine.proofs.Kept.{steps_kept}
use Rattle.split.specs.Split.{SplitComes}
use Rattle.split.proofs.Sound.{split_kept, split_does}
use Rattle.law_peepholes.proofs.Placed.{peepholes_keep}
use Rattle.schedule.specs.Schedule as orders
use Rattle.schedule.specs.declared.plan.CycleOf.{CycleOf}
use Rattle.schedule.proofs.KeptLaws.{each_kept}
use Rattle.schedule.proofs.DoesLaws.{schedule_does}
use Rattle.reload.specs.law_frame.law_window_replaced.law_window_kept.law_function_kept.Keeps.{Keeps}
use Rattle.reload.proofs.law_frame.law_window_replaced.law_kept_composed.Keeping.{keeps_refl, keeps_trans}
use Rattle.reload.specs.law_frame.Keeps.{IsLaidOut, KeepsInFrame}
use Rattle.reload.proofs.law_frame.Laid.{laid_out}
use Rattle.frame.specs.Framed.{FrameComes}
use Rattle.frame.proofs.Kept.{is_framed, frame_keeps}
use Rattle.reload.proofs.WindowLaws.{reload_windows}
use Rattle.reload.specs.Windows.{HasWindows}
use Rattle.law_peepholes.specs.law_lines_ready.law_no_pseudos.Hard.{IsHardFunction}
use Rattle.law_peepholes.specs.law_lines_ready.Placed.{IsInsnPlaced, ArePlaced}
use Rattle.law_peepholes.proofs.law_lines_ready.law_no_pseudos.Reloaded.{reload_hard}
use Rattle.law_peepholes.proofs.law_lines_ready.law_no_pseudos.Framed.{frame_hard}
use Rattle.law_peepholes.proofs.law_lines_ready.Reloaded.{reload_placed}
use Rattle.law_peepholes.proofs.law_lines_ready.Framed.{frame_placed}
use Rattle.law_peepholes.proofs.law_lines_ready.Split.{split_placed}
use Rattle.law_peepholes.proofs.law_lines_ready.Written.{placed_writable}
use Rattle.law_peepholes.proofs.law_lines_ready.Given.{placed_natural, placed_marks, placed_registers}
use Rattle.law_passes.proofs.Made.{size_holds, made_same}
use Rattle.func_after.specs.declared.compilation.Compilation.{Compilation}
use Rattle.func_after.specs.declared.change.Change.{Change}
use Rattle.func_after.specs.After.{as_read, ChangeComes, AfterComes}
use Rattle.func_after.specs.Leads.{IsDescribed, LeadsToLines}
use Rattle.func_after.proofs.Hard.{behind_hard}
use Rattle.func_after.proofs.Changes.{read_by, lower_by, reuse_by, combine_by, split_by, again_by, cover_by, schedule_by, changes_of}
use Rattle.func_after.proofs.Passing.{PassHolds, all_hold}
use Rattle.func_after.proofs.Stages.{Stages, stages_of}

-- ---- the frame

small_by : (forms : List Entry) (f g : Function) (layout : Layout) (a : Result Function PassRefusal) → a ≡ Ok g → FrameComes forms f layout a →
    layout.size ≤ most_frame
small_by forms f g layout _ is (FrameComes.large large) = absurd (let none : ⊥ = cc in none)
small_by forms f g layout _ is (FrameComes.unmatched h i small framed first) = small
small_by forms f g layout _ is (FrameComes.framed h small framed matched) = small

-- ---- the passes before registers have homes

abbrev KeptSound : Compilation → Compilation → Type 0
KeptSound m n = IsSound m.function → PassKeeps m.function n.function

sound_same : (m : Compilation) → KeptSound m m
sound_same m sound = kept_refl m.function sound

sound_joined : (l m n : Compilation) → KeptSound l m → KeptSound m n → KeptSound l n
sound_joined l m n first second sound =
    let one = first sound in kept_trans l.function m.function n.function one (second one.sound)

module _ (forms : List Entry) where
  abbrev Before : Pass → Type 0
  Before = PassHolds forms KeptSound

  before_by : (pass : Pass) → (pass ≡ Reload → ⊥) → (pass ≡ Frame → ⊥) →
      ((f : Function) (c : Change) → IsSound f → ChangeComes forms f pass (Ok c) → PassKeeps f c.function) → Before pass
  before_by pass other else keeps m n comes sound =
      let changes = changes_of forms m n pass other else comes in
      keeps m.function (record { function = n.function; combined = changes.combined }) sound changes.comes

  read_keeps : Before Read
  read_keeps = before_by Read (λ is. cc) (λ is. cc) (λ f c sound comes. subst (PassKeeps f) (read_by forms f c (Ok c) refl comes) (kept_refl f sound))

  lower_keeps : Before Lower
  lower_keeps = before_by Lower (λ is. cc) (λ is. cc) (λ f c sound comes. lower_kept forms f c.function sound (lower_by forms f c (Ok c) refl comes))

  reuse_keeps : Before Reuse
  reuse_keeps = before_by Reuse (λ is. cc) (λ is. cc) (λ f c sound comes. let made = reuse_by forms f c (Ok c) refl comes in reuse.steps_kept forms made.0 f c.function sound made.1.steps)

  combine_keeps : Before Combine
  combine_keeps = before_by Combine (λ is. cc) (λ is. cc) (λ f c sound comes. steps_kept forms c.combined f c.function sound (combine_by forms f c (Ok c) refl comes).0)

  split_keeps : Before Split1
  split_keeps = before_by Split1 (λ is. cc) (λ is. cc) (λ f c sound comes. split_kept forms f c.function sound (split_by forms f c (Ok c) refl comes))

  -- each of them keeps a sound function
  before_keeps : (road : Road) → AllByRecursion Before (before_homes road)
  before_keeps Usual = (read_keeps, (lower_keeps, (combine_keeps, (split_keeps, tt))))
  before_keeps Reusing = (read_keeps, (lower_keeps, (reuse_keeps, (combine_keeps, (split_keeps, tt)))))
  before_keeps Scheduled = (read_keeps, (lower_keeps, (combine_keeps, (split_keeps, tt))))

-- ---- those behind the frame

record KeepsPlaced (m n : Compilation) : Type 0 where
  pub keeps : Keeps m.function n.function
  pub placed : ArePlaced n.function
  pub layout_is : n.layout ≡ m.layout

abbrev KeptPlaced : Compilation → Compilation → Type 0
KeptPlaced m n = ArePlaced m.function → KeepsPlaced m n

placed_same : (m : Compilation) → KeptPlaced m m
placed_same m placed = record { keeps = keeps_refl m.function; placed = placed; layout_is = refl }

placed_joined : (l m n : Compilation) → KeptPlaced l m → KeptPlaced m n → KeptPlaced l n
placed_joined l m n first second placed =
    let one = first placed in
    let two = second one.placed in record {
      keeps = keeps_trans l.function m.function n.function one.keeps two.keeps;
      placed = two.placed;
      layout_is = two.layout_is ∙ one.layout_is;
    }

module _ (forms : List Entry) where
  abbrev Behind : Pass → Type 0
  Behind = PassHolds forms KeptPlaced

  behind_by : (pass : Pass) → (pass ≡ Reload → ⊥) → (pass ≡ Frame → ⊥) →
      ((f : Function) (c : Change) → ArePlaced f → ChangeComes forms f pass (Ok c) → Keeps f c.function × ArePlaced c.function) → Behind pass
  behind_by pass other else keeps m n comes placed =
      let changes = changes_of forms m n pass other else comes in
      let kept = keeps m.function (record { function = n.function; combined = changes.combined }) placed changes.comes in
      record { keeps = kept.0; placed = kept.1; layout_is = changes.layout_is }

  again_does : (f g : Function) → ArePlaced f → SplitComes forms Split2 f (Ok g) → Keeps f g × ArePlaced g
  again_does f g placed comes = (split_does forms Split2 f g (placed_marks f placed) (placed_natural f placed) comes, split_placed forms f g placed comes)

  again_keeps : Behind Split2
  again_keeps = behind_by Split2 (λ is. cc) (λ is. cc) (λ f c placed comes. again_does f c.function placed (again_by forms f c (Ok c) refl comes))

  cover_keeps : Behind Peephole2
  cover_keeps = behind_by Peephole2 (λ is. cc) (λ is. cc) (λ f c placed comes. peepholes_keep forms f c.function placed (cover_by forms f c (Ok c) refl comes))

  schedule_does_placed : (f g : Function) (cycles : List CycleOf) → ArePlaced f → orders.Scheduled forms (pipeline_in forms) f cycles g → Keeps f g × ArePlaced g
  schedule_does_placed f g cycles placed comes =
      let lawful = pipeline_lawful forms in (
        schedule_does forms (pipeline_in forms) lawful f g cycles (placed_marks f placed) (placed_registers f placed) comes,
        each_kept forms (pipeline_in forms) lawful IsInsnPlaced f g cycles comes placed,
      )

  schedule_keeps : Behind Schedule
  schedule_keeps = behind_by Schedule (λ is. cc) (λ is. cc) (λ f c placed comes. let made = schedule_by forms f c (Ok c) refl comes in schedule_does_placed f c.function made.0 placed made.1)

  -- each of them does what the function did, and leaves it placed
  behind_keeps : (road : Road) → AllByRecursion Behind (behind_frame road)
  behind_keeps Usual = (again_keeps, (cover_keeps, tt))
  behind_keeps Reusing = (again_keeps, (cover_keeps, tt))
  behind_keeps Scheduled = (again_keeps, (cover_keeps, (schedule_keeps, tt)))

-- ---- all

module _ (forms : List Entry) (road : Road) (f : Function) (m : Compilation) (sound : IsSound f) (s : Stages forms road f m) where
  abbrev plain : Function
  plain = s.plain.function

  abbrev layout : Layout
  layout = layout_of plain s.homes

  passes : PassKeeps f plain
  passes = all_hold forms KeptSound sound_same sound_joined (before_homes road) (as_read f) s.plain (Ok s.plain) refl
      (before_keeps forms road) s.before sound

  windows : HasWindows forms s.homes layout plain s.moved
  windows = reload_windows forms s.homes layout plain s.moved s.reloads

  moved_placed : ArePlaced s.moved
  moved_placed = reload_placed forms s.homes layout plain s.moved s.are passes.sound windows

  frame_is : IsFrame plain s.homes layout
  frame_is = IsFrame-layout_of plain s.homes

  laid : IsLaidOut s.moved.locals layout
  laid = subst (λ (locals : ℕ). IsLaidOut locals layout) (sym (ap (λ (g : Function). g.locals) windows.function_is))
      (laid_out plain s.homes layout frame_is)

  moved_hard : IsHardFunction s.moved
  moved_hard = reload_hard forms s.homes layout plain s.moved s.are passes.sound.reloadable windows

  framed_placed : ArePlaced s.framed
  framed_placed = frame_placed layout laid.preserved s.moved s.framed moved_placed (is_framed forms s.moved s.framed layout s.frames)

  framed_hard : IsHardFunction s.framed
  framed_hard = frame_hard layout laid.preserved s.moved s.framed moved_hard (is_framed forms s.moved s.framed layout s.frames)

  keeps : KeepsInFrame s.moved layout s.framed
  keeps = frame_keeps forms s.moved s.framed layout laid (placed_registers s.moved moved_placed) s.frames

  last : KeepsPlaced (record { function = s.framed; combined = s.combined; layout = layout }) m
  last = all_hold forms KeptPlaced placed_same placed_joined (behind_frame road) (record { function = s.framed; combined = s.combined; layout = layout }) m
      (Ok m) refl (behind_keeps forms road) s.behind framed_placed

  last_hard : IsDescribed forms → IsHardFunction m.function
  last_hard described = behind_hard forms described road (record { function = s.framed; combined = s.combined; layout = layout }) m s.behind framed_hard

  same_by : IsDescribed forms → (items : List CodeItem) → SameWhereLeft m.function items → Same layout.size f items
  same_by described items lines_do =
      let windows_of : HasWindows (forms_of described.0 described.1) s.homes layout plain s.moved =
      subst (λ (es : List Entry). HasWindows es s.homes layout plain s.moved) described.2 windows in
      let frames_of : FrameComes (forms_of described.0 described.1) s.moved layout (Ok s.framed) =
      subst (λ (es : List Entry). FrameComes es s.moved layout (Ok s.framed)) described.2 s.frames in
      made_same described.0 described.1 f plain s.moved s.framed m.function s.homes layout items passes s.are refl
      windows_of frames_of keeps last.keeps lines_do

  holds : f.locals ≤ layout.size
  holds = subst (λ (locals : ℕ). locals ≤ layout.size) passes.same.locals_are (size_holds plain.locals _ _)

  leads_by : IsDescribed forms → LeadsToLines f m
  leads_by described = record {
    writable = placed_writable m.function last.placed (last_hard described);
    holds = subst (λ (l : Layout). f.locals ≤ l.size) (sym last.layout_is) holds;
    small = subst (λ (l : Layout). l.size ≤ most_frame) (sym last.layout_is)
        (small_by forms s.moved s.framed layout (Ok s.framed) refl s.frames);
    same = λ items lines_do. subst (λ (l : Layout). Same l.size f items) (sym last.layout_is) (same_by described items lines_do);
  }

-- what comes to output leads to lines with the behaviour of the function
pub after_leads : (forms : List Entry) (road : Road) (f : Function) (m : Compilation) → IsDescribed forms → IsSound f → AfterComes forms road f (Ok m) → LeadsToLines f m
after_leads forms road f m described sound comes = leads_by forms road f m sound (stages_of forms road f m comes) described
