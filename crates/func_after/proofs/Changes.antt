-- What a pass made that gave something, from what comes of it.
use Rattle.std.proofs.Common.{◌≡◌, ℕ, List, Result, Ok, Err, refl, sym, ap, subst, ◌∙◌}
use Rattle.rtx_tree.specs.declared.function.Function.{Function}
use Rattle.rtx_tree.specs.declared.limit.Limit.TheVariants.{Instructions}
use Rattle.run_refusal.specs.declared.refusal.Refusal.{Refusal}
use Rattle.run_refusal.specs.declared.refusal.Refusal.TheVariants as refusal
use Rattle.pass_name.specs.declared.pass.Pass.{Pass}
use Rattle.pass_name.specs.declared.pass.Pass.TheVariants.{Read, Lower, Reuse, Combine, Split1, Reload, Frame, Split2, Peephole2, Schedule, Output}
use Rattle.md_forms.specs.declared.form.Entry.{Entry}
use Rattle.md_dfa.specs.Pipeline.{pipeline_in}
use Rattle.pass_refusal.specs.declared.refusal.PassRefusal.{PassRefusal}
use Rattle.lower.specs.Lower.{LowerComes}
use Rattle.reuse.specs.Reuse.{Reused}
use Rattle.combine.specs.Combine.{Combined}
use Rattle.split.specs.Split.{SplitComes}
use Rattle.peep2.specs.Cover.{CoverComes}
use Rattle.schedule.specs.Schedule.{Scheduled}
use Rattle.schedule.specs.declared.plan.CycleOf.{CycleOf}
use Rattle.assign.specs.Frame.{layout_of}
use Rattle.assign.specs.Homes.{AreHomes}
use Rattle.assign.specs.declared.home.HomeOf.{HomeOf}
use Rattle.assign.specs.declared.places.Layout.{Layout}
use Rattle.reload.specs.Reload.{FunctionReloads}
use Rattle.reload.specs.declared.refusal.ReloadRefusal.{ReloadRefusal}
use Rattle.frame.specs.Framed.{FrameComes}
use Rattle.func_after.specs.declared.change.Change.{Change}
use Rattle.func_after.specs.declared.compilation.Compilation.{Compilation}
use Rattle.func_after.specs.After.{Answer, Changed, plainly, combined_behind, told_for, told_reloaded, count_of, IsShort, ChangeComes, PassMakes, PassComes}

pub ok_is : (m n : Compilation) → ◌≡◌ {A = Answer} (Ok m) (Ok n) → m ≡ n
ok_is m n is = cc

pub apart : {P : Type 0} (m : Compilation) (e : Refusal) → ◌≡◌ {A = Answer} (Err e) (Ok m) → P
apart m e is = absurd (let none : ⊥ = cc in none)

-- ---- passes that change the function alone

-- reload and the frame are none of them
pub no_reload : {P : Type 0} (forms : List Entry) (f : Function) (c : Changed) → ChangeComes forms f Reload c → P
no_reload forms f c comes = elim comes [ ]

pub no_frame : {P : Type 0} (forms : List Entry) (f : Function) (c : Changed) → ChangeComes forms f Frame c → P
no_frame forms f c comes = elim comes [ ]

pub plain_is : (r : Result Function PassRefusal) (c : Change) → plainly r ≡ Ok c → r ≡ Ok c.function
plain_is (Ok g) c is = let same : record { function = g; combined = 0 } ≡ c = cc in ap (λ (d : Change). Ok d.function) same
plain_is (Err e) c is = absurd (let none : ⊥ = cc in none)

module _ (forms : List Entry) (f : Function) (c : Change) where
  -- reading and writing leave the function
  pub read_by : (a : Changed) → a ≡ Ok c → ChangeComes forms f Read a → f ≡ c.function
  read_by _ is ChangeComes.reads = let same : record { function = f; combined = 0 } ≡ c = cc in ap (λ (d : Change). d.function) same

  pub write_by : (a : Changed) → a ≡ Ok c → ChangeComes forms f Output a → f ≡ c.function
  write_by _ is ChangeComes.writes = let same : record { function = f; combined = 0 } ≡ c = cc in ap (λ (d : Change). d.function) same

  pub lower_by : (a : Changed) → a ≡ Ok c → ChangeComes forms f Lower a → LowerComes forms f (Ok c.function)
  lower_by _ is (ChangeComes.lowers r comes) = subst (LowerComes forms f) (plain_is r c is) comes

  pub reuse_by : (a : Changed) → a ≡ Ok c → ChangeComes forms f Reuse a → (n : ℕ) × Reused forms n f c.function
  reuse_by _ is (ChangeComes.reuses n g comes) = let same : record { function = g; combined = 0 } ≡ c = cc in
      (n, subst (λ (d : Change). Reused forms n f d.function) same comes)

  pub combine_by : (a : Changed) → a ≡ Ok c → ChangeComes forms f Combine a → Combined forms c.combined f c.function
  combine_by _ is (ChangeComes.combines n g comes) = let same : record { function = g; combined = n } ≡ c = cc in
      subst (λ (d : Change). Combined forms d.combined f d.function) same comes

  pub split_by : (a : Changed) → a ≡ Ok c → ChangeComes forms f Split1 a → SplitComes forms Split1 f (Ok c.function)
  split_by _ is (ChangeComes.splits_first r comes) = subst (SplitComes forms Split1 f) (plain_is r c is) comes

  pub again_by : (a : Changed) → a ≡ Ok c → ChangeComes forms f Split2 a → SplitComes forms Split2 f (Ok c.function)
  again_by _ is (ChangeComes.splits_again r comes) = subst (SplitComes forms Split2 f) (plain_is r c is) comes

  pub cover_by : (a : Changed) → a ≡ Ok c → ChangeComes forms f Peephole2 a → CoverComes forms f (Ok c.function)
  cover_by _ is (ChangeComes.covers r comes) = subst (CoverComes forms f) (plain_is r c is) comes

  pub schedule_by : (a : Changed) → a ≡ Ok c → ChangeComes forms f Schedule a → (cycles : List CycleOf) × Scheduled forms (pipeline_in forms) f cycles c.function
  schedule_by _ is (ChangeComes.schedules cycles g comes) = let same : record { function = g; combined = 0 } ≡ c = cc in
      (cycles, subst (λ (d : Change). Scheduled forms (pipeline_in forms) f cycles d.function) same comes)

-- what a pass that gave something made
module _ (forms : List Entry) (m next : Compilation) (pass : Pass) where
  pub makes_of : (a : Answer) → a ≡ Ok next → PassComes forms m pass a → PassMakes forms m pass (Ok next)
  makes_of _ is (PassComes.refused e makes) = apart next e is
  makes_of _ is (PassComes.long n makes many) = apart next (refusal.Limit Instructions (count_of n)) is
  makes_of _ is (PassComes.made n makes short) = subst (λ (n : Compilation). PassMakes forms m pass (Ok n)) (ok_is n next is) makes

  -- is not too long
  pub short_of : (a : Answer) → a ≡ Ok next → PassComes forms m pass a → IsShort next
  short_of _ is (PassComes.refused e makes) = apart next e is
  short_of _ is (PassComes.long n makes many) = apart next (refusal.Limit Instructions (count_of n)) is
  short_of _ is (PassComes.made n makes short) = subst IsShort (ok_is n next is) short

module _ (forms : List Entry) (m next : Compilation) where
  abbrev pub Made_by : Pass → ℕ → Type 0
  Made_by pass combined = ChangeComes forms m.function pass (Ok (record { function = next.function; combined = combined }))

  -- a pass changed the function alone, and left the layout
  pub record Changes (pass : Pass) : Type 0 where
    pub combined : ℕ
    pub comes : Made_by pass combined
    pub layout_is : next.layout ≡ m.layout

  pub changed_by : (pass : Pass) (c : Changed) → ◌≡◌ {A = Answer} (Ok next) (told_for m.function.name m.combined m.layout pass c) → ChangeComes forms m.function pass c →
      Changes pass
  changed_by pass (Ok c) is comes = let same = ok_is next (record { function = c.function; combined = combined_behind pass m.combined c.combined; layout = m.layout }) is in record {
    combined = c.combined;
    comes = subst (λ (g : Function). ChangeComes forms m.function pass (Ok (record { function = g; combined = c.combined })))
        (sym (ap (λ (n : Compilation). n.function) same)) comes;
    layout_is = ap (λ (n : Compilation). n.layout) same;
  }
  changed_by pass (Err e) is comes = absurd (let none : ⊥ = cc in none)

  -- whichever is neither reload nor the frame did
  changes_by : (pass : Pass) (a : Answer) → a ≡ Ok next → (pass ≡ Reload → ⊥) → (pass ≡ Frame → ⊥) → PassMakes forms m pass a → Changes pass
  changes_by _ a is other else (PassMakes.changes pass c _ comes told) = changed_by pass c (sym is ∙ told) comes
  changes_by _ a is other else (PassMakes.reloads homes r _ are does told) = absurd (other refl)
  changes_by _ a is other else (PassMakes.frames r _ comes told) = absurd (else refl)

  pub changes_of : (pass : Pass) → (pass ≡ Reload → ⊥) → (pass ≡ Frame → ⊥) → PassComes forms m pass (Ok next) → Changes pass
  changes_of pass other else comes = changes_by pass (Ok next) refl other else (makes_of forms m next pass (Ok next) refl comes)

  -- ---- homes

  pub record Reloaded : Type 0 where
    pub homes : List HomeOf
    pub are : AreHomes m.function homes
    pub comes : FunctionReloads forms homes (layout_of m.function homes) m.function (Ok next.function)
    pub layout_is : next.layout ≡ layout_of m.function homes

  pub reload_told : (name : List ℕ) (before : ℕ) (layout : Layout) (r : Result Function ReloadRefusal) →
      ◌≡◌ {A = Answer} (Ok next) (told_reloaded name before layout r) → (r ≡ Ok next.function) × (next.layout ≡ layout)
  reload_told name before layout (Ok g) is = let same = ok_is next (record { function = g; combined = before; layout = layout }) is in
      (ap (λ (n : Compilation). Ok n.function) (sym same), ap (λ (n : Compilation). n.layout) same)
  reload_told name before layout (Err e) is = absurd (let none : ⊥ = cc in none)

  reloaded_by : (a : Answer) → a ≡ Ok next → PassMakes forms m Reload a → Reloaded
  reloaded_by a is (PassMakes.changes _ c _ comes told) = no_reload forms m.function c comes
  reloaded_by a is (PassMakes.reloads homes r _ are does told) =
      let gave = reload_told m.function.name m.combined (layout_of m.function homes) r (sym is ∙ told) in record {
        homes = homes;
        are = are;
        comes = subst (FunctionReloads forms homes (layout_of m.function homes) m.function) gave.0 does;
        layout_is = gave.1;
      }

  pub reloaded_of : PassComes forms m Reload (Ok next) → Reloaded
  reloaded_of comes = reloaded_by (Ok next) refl (makes_of forms m next Reload (Ok next) refl comes)

  -- ---- the frame

  pub record HasFrame : Type 0 where
    pub comes : FrameComes forms m.function m.layout (Ok next.function)
    pub layout_is : next.layout ≡ m.layout

  pub frame_told : (r : Result Function PassRefusal) → ◌≡◌ {A = Answer} (Ok next) (told_for m.function.name m.combined m.layout Frame (plainly r)) →
      FrameComes forms m.function m.layout r → HasFrame
  frame_told (Ok g) is comes = let same = ok_is next (record { function = g; combined = m.combined; layout = m.layout }) is in record {
    comes = subst (λ (g : Function). FrameComes forms m.function m.layout (Ok g)) (sym (ap (λ (n : Compilation). n.function) same)) comes;
    layout_is = ap (λ (n : Compilation). n.layout) same;
  }
  frame_told (Err e) is comes = absurd (let none : ⊥ = cc in none)

  framed_by : (a : Answer) → a ≡ Ok next → PassMakes forms m Frame a → HasFrame
  framed_by a is (PassMakes.changes _ c _ comes told) = no_frame forms m.function c comes
  framed_by a is (PassMakes.frames r _ comes told) = frame_told r (sym is ∙ told) comes

  pub framed_of : PassComes forms m Frame (Ok next) → HasFrame
  framed_of comes = framed_by (Ok next) refl (makes_of forms m next Frame (Ok next) refl comes)
