-- The law, by what stands in the place of each instruction: a use, a clobber, a label or a barrier
-- alone, or an instruction between moves that do what is asked.
use Rattle.std.proofs.Common.{◌≡◌, ℕ, ◌+◌, true, List, Some, ap}
use Rattle.std.specs.Prelude.{slice_get}
use Rattle.rtx_tree.specs.declared.function.Function.{Function}
use Rattle.rtx_tree.specs.declared.function.Insn.{Insn}
use Rattle.rtx_tree.specs.declared.machine.Start.{Start}
use Rattle.rtx_tree.specs.declared.machine.World.{World}
use Rattle.rtx_tree.specs.declared.tree.Rtx.{Rtx}
use Rattle.md_match.specs.Pattern.{Ops}
use Rattle.md_forms.specs.declared.form.Entry.{Entry}
use Rattle.reload.specs.form_needs.Needs.{needs_form}
use Rattle.same_behaviour.specs.Lawful.{IsLawful, IsLawfulWorld}
use Rattle.assign.specs.declared.home.HomeOf.{HomeOf}
use Rattle.assign.specs.declared.places.Layout.{Layout}
use Rattle.law_reload_moves.specs.law_frame.Frame.{next_uid}
use Rattle.law_homes.proofs.Setting.{Setting}
use Rattle.law_reload_moves.specs.reload_choice.declared.given.Plan.{Plan}
use Rattle.law_reload_moves.specs.reload_choice.Sound.{IsSoundPlan}
use Rattle.law_reload_moves.specs.reload_choice.Insns.{between, insns_before, insns_after}
use Rattle.reload.specs.Reload.{given_by, IsMatch}
use Rattle.reload.specs.Windows.{IsWindow, AreWindows, HasWindows}
use Rattle.law_reload.specs.Homes.{HasHomes}
use Rattle.law_reload.specs.Keeps.{KeepsUnderHomes}
use Rattle.law_reload.proofs.Law.{setting_of}
use Rattle.law_reload.proofs.Windows.{Does, InPlace}
use Rattle.law_reload.proofs.Windows as windows
use Rattle.law_reload.proofs.Alone.{alone_does}
use Rattle.law_reload.proofs.Moved.{MovesLead, moved_does}
use Rattle.law_reload.proofs.Whole.{in_place_keeps}

-- What is asked of the moves of a sound plan: with them an instruction does what it did.
abbrev pub MovesDo : List Entry → Setting → Function → Type 0
MovesDo forms c g = (place : ℕ) (i : Insn) (at : slice_get c.f.insns place ≡ Some i) (form : ℕ)
    (pattern : Rtx) (found : Ops) (plan : Plan) →
    needs_form i ≡ true → IsMatch forms c.layout i form pattern found →
    IsSoundPlan (given_by c.homes c.layout i pattern found) plan →
    let given = given_by c.homes c.layout i pattern found in
    MovesLead c g place i at (insns_before given.operands plan.parts)
    (between given.pattern given.operands plan.parts given.insn)
    (insns_after given.operands plan.parts)

module _ (forms : List Entry) (c : Setting) (g : Function) (moves : MovesDo forms c g) where
  window_does : (place uid : ℕ) (i : Insn) (window : List Insn)
      (at : slice_get c.f.insns place ≡ Some i) →
      IsWindow forms c.homes c.layout uid i window → Does c g place i at window
  window_does place uid i _ at (IsWindow.stays free) = alone_does c g place i at free
  window_does place uid i _ at (IsWindow.made form pattern found plan needs match sound matched) =
      let given = given_by c.homes c.layout i pattern found in
      moved_does c g place i at (insns_before given.operands plan.parts)
      (between given.pattern given.operands plan.parts given.insn)
      (insns_after given.operands plan.parts) (moves place i at form pattern found plan needs match
      sound) uid needs

  pub in_place : (uid place : ℕ) (xs ys : List Insn) → AreWindows forms c.homes c.layout uid xs ys →
      InPlace c g place xs ys
  in_place _ place _ _ (AreWindows.none uid) = windows.none place
  in_place _ place _ _ (AreWindows.one_more uid next i insns window rest is free more) =
      windows.one_more place i insns window rest (λ at. window_does place uid i window at is)
      (in_place next (place + 1) insns rest more)

-- a function whose instructions stand in such windows keeps its runs under homes
pub windows_keep : (forms : List Entry) (f g : Function) (homes : List HomeOf) (layout : Layout)
    (has : HasHomes f homes layout) →
    HasWindows forms homes layout f g →
    ((start : Start) (world : World) (lawful : IsLawful layout.size f.locals start) →
    IsLawfulWorld start world →
    MovesDo forms (setting_of f homes layout has start world lawful) g) → KeepsUnderHomes f layout g
windows_keep forms f g homes layout has are moves = in_place_keeps f g homes layout has
    (ap (λ (h : Function). h.locals) are.function_is) (ap (λ (h : Function). h.result)
    are.function_is)
    (λ start world lawful lawful_world. in_place forms (setting_of f homes layout has start world
    lawful) g (moves start world lawful lawful_world)
    (next_uid f.insns) 0 f.insns g.insns are.windows)
