-- What stands between the passes, from what comes of all of them.
use Rattle.std.proofs.Common.{ℕ, List, ◌∷◌, Ok, subst, ◌∙◌}
use Rattle.rtx_tree.specs.declared.function.Function.{Function}
use Rattle.pass_name.specs.declared.pass.Pass.TheVariants.{Reload, Frame}
use Rattle.pass_name.specs.declared.road.Road.{Road}
use Rattle.pass_name.specs.Road.{before_homes, behind_frame}
use Rattle.md_forms.specs.declared.form.Entry.{Entry}
use Rattle.assign.specs.Frame.{layout_of}
use Rattle.assign.specs.Homes.{AreHomes}
use Rattle.assign.specs.declared.home.HomeOf.{HomeOf}
use Rattle.assign.specs.declared.places.Layout.{Layout}
use Rattle.reload.specs.Reload.{FunctionReloads}
use Rattle.frame.specs.Framed.{FrameComes}
use Rattle.func_after.specs.declared.compilation.Compilation.{Compilation}
use Rattle.func_after.specs.After.{as_read, PassesCome, AfterComes}
use Rattle.func_after.proofs.Changes.{reloaded_of, framed_of}
use Rattle.func_after.proofs.Passing.{next_of, middle_of}

-- what there was before registers have homes, the function with homes, that with its frame, and what is left behind all
pub record Stages (forms : List Entry) (road : Road) (f : Function) (last : Compilation) : Type 0 where
  pub plain : Compilation
  pub homes : List HomeOf
  pub moved : Function
  pub framed : Function
  pub combined : ℕ
  pub before : PassesCome forms (before_homes road) (as_read f) (Ok plain)
  pub are : AreHomes plain.function homes
  pub reloads : FunctionReloads forms homes (layout_of plain.function homes) plain.function (Ok moved)
  pub frames : FrameComes forms moved (layout_of plain.function homes) (Ok framed)
  pub behind : PassesCome forms (behind_frame road) (record { function = framed; combined = combined; layout = layout_of plain.function homes }) (Ok last)

pub stages_of : (forms : List Entry) (road : Road) (f : Function) (last : Compilation) → AfterComes forms road f (Ok last) → Stages forms road f last
stages_of forms road f last comes =
    let front = middle_of forms (before_homes road) (Reload ∷ Frame ∷ behind_frame road) (as_read f) last comes in
    let homed = next_of forms Reload (Frame ∷ behind_frame road) front.middle last front.rest in
    let framed = next_of forms Frame (behind_frame road) homed.next last homed.rest in
    let reload = reloaded_of forms front.middle homed.next homed.comes in
    let frame = framed_of forms homed.next framed.next framed.comes in record {
      plain = front.middle;
      homes = reload.homes;
      moved = homed.next.function;
      framed = framed.next.function;
      combined = framed.next.combined;
      before = front.first;
      are = reload.are;
      reloads = reload.comes;
      frames = subst (λ (l : Layout). FrameComes forms homed.next.function l (Ok framed.next.function)) reload.layout_is frame.comes;
      behind = subst (λ (l : Layout). PassesCome forms (behind_frame road) (record { function = framed.next.function; combined = framed.next.combined; layout = l }) (Ok last))
          (frame.layout_is ∙ reload.layout_is) framed.rest;
    }
