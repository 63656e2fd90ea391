-- What a pass makes of what was made, from what its call gave.
use Rattle.std.proofs.Common.{◌≡◌, ◌≤◌, ◌<◌, ◌⊎◌, inl, inr, ℕ, List, Result, Ok, Err, refl, sym, ap, subst, ◌∙◌}
use Rattle.rtx_tree.specs.declared.function.Function.{Function}
use Rattle.pass_name.specs.declared.pass.Pass.{Pass}
use Rattle.pass_name.specs.declared.pass.Pass.TheVariants.{Read, Reload, Frame, Output}
use Rattle.md_forms.specs.declared.form.Entry.{Entry}
use Rattle.pass_refusal.specs.declared.refusal.PassRefusal.{PassRefusal}
use Rattle.pass_refusal.specs.declared.refusal.PassRefusal.TheVariants as passes
use Rattle.pass_refusal.specs.Outcome as outcome
use Rattle.assign.specs.Frame.{layout_of}
use Rattle.assign.specs.Homes.{AreHomes}
use Rattle.assign.specs.declared.home.HomeOf.{HomeOf}
use Rattle.assign.specs.declared.places.Layout.{Layout}
use Rattle.reload.specs.Outcome as reloads
use Rattle.reload.specs.Reload.{FunctionReloads}
use Rattle.reload.specs.declared.refusal.ReloadRefusal.{ReloadRefusal}
use Rattle.reload.specs.declared.refusal.ReloadRefusal.TheVariants as reloading
use Rattle.frame.specs.Framed.{FrameComes}
use Rattle.func_input.specs.Input.{RefusesWith}
use Rattle.func_input.proofs.Refusing.{refuses_map}
use Rattle.func_after.specs.declared.compilation.Compilation.{Compilation}
use Rattle.run_refusal.specs.declared.refusal.Refusal.{Refusal}
use Rattle.run_refusal.specs.declared.refusal.Refusal.TheVariants as refusal
use Rattle.rtx_tree.specs.declared.limit.Limit.TheVariants.{Instructions}
use Rattle.rtx_tree.specs.Limit.{most_made}
use Rattle.func_after.specs.After as spec
use Rattle.func_after.specs.After.{Answer, Changed, Gives, plainly, refused_for, unreloaded_for, count_of, ChangeComes, PassMakes, PassComes}

-- a refusal of a pass that is told, where what follows from it is known
pub told_for : {A B : Type 0} (name : List ℕ) (at : Pass) (e : PassRefusal) (P : Result A PassRefusal → Type 0) (Q : Result B Refusal → Type 0) →
    ((e : PassRefusal) → P (Err e) → Q (Err (refused_for name at e))) → outcome.RefusesWith e P → RefusesWith (refused_for name at e) Q
told_for name at passes.Memory P Q follows r = tt
told_for name at (passes.Unmatched uid insn) P Q follows r = follows (passes.Unmatched uid insn) r
told_for name at (passes.NotEquated uid rule item left right) P Q follows r = follows (passes.NotEquated uid rule item left right) r
told_for name at (passes.Limit which count) P Q follows r = follows (passes.Limit which count) r

told_reloaded : (name : List ℕ) (e : ReloadRefusal) (P : ReloadRefusal → Type 0) (Q : Answer → Type 0) →
    ((e : ReloadRefusal) → P e → Q (Err (unreloaded_for name e))) → reloads.RefusesAs e P → RefusesWith (unreloaded_for name e) Q
told_reloaded name reloading.Memory P Q follows r = tt
told_reloaded name (reloading.Unmatched uid insn) P Q follows r = follows (reloading.Unmatched uid insn) r
told_reloaded name (reloading.Unsatisfied uid form insn) P Q follows r = follows (reloading.Unsatisfied uid form insn) r

module _ (forms : List Entry) (m : Compilation) where
  abbrev told : Pass → Changed → Answer
  told pass c = spec.told_for m.function.name m.combined m.layout pass c

  -- ---- passes that change the function alone

  change_gives : (pass : Pass) (c : Changed) → outcome.Gives c (ChangeComes forms m.function pass) → Gives (told pass c) (PassMakes forms m pass)
  change_gives pass (Ok c) comes = PassMakes.changes pass (Ok c) (told pass (Ok c)) comes refl
  change_gives pass (Err e) comes = told_for m.function.name pass e (ChangeComes forms m.function pass) (PassMakes forms m pass)
      (λ e comes. PassMakes.changes pass (Err e) (told pass (Err e)) comes refl) comes

  -- by the name that was kept
  pub change_told : (pass at : Pass) (name : List ℕ) (c : Changed) (answer : Answer) → at ≡ pass → name ≡ m.function.name →
      answer ≡ spec.told_for name m.combined m.layout at c → outcome.Gives c (ChangeComes forms m.function pass) → Gives answer (PassMakes forms m at)
  change_told pass at name c answer here named is gives =
      subst (λ (a : Answer). Gives a (PassMakes forms m at))
      (sym (is ∙ ap (λ (n : List ℕ). spec.told_for n m.combined m.layout at c) named))
      (subst (λ (p : Pass). Gives (told p c) (PassMakes forms m p)) (sym here) (change_gives pass c gives))

  -- reading and writing leave what was made
  pub rest_gave : (pass : Pass) → (pass ≡ Read) ⊎ (pass ≡ Output) → PassMakes forms m pass (Ok m)
  rest_gave pass (inl is) = subst (λ p. PassMakes forms m p (Ok m)) (sym is)
      (PassMakes.changes Read (Ok (record { function = m.function; combined = 0 })) (Ok m) ChangeComes.reads refl)
  rest_gave pass (inr is) = subst (λ p. PassMakes forms m p (Ok m)) (sym is)
      (PassMakes.changes Output (Ok (record { function = m.function; combined = 0 })) (Ok m) ChangeComes.writes refl)

  -- ---- the frame

  frame_gives : (r : Result Function PassRefusal) → outcome.Gives r (FrameComes forms m.function m.layout) →
      Gives (told Frame (plainly r)) (PassMakes forms m Frame)
  frame_gives (Ok g) comes = PassMakes.frames (Ok g) (told Frame (plainly (Ok g))) comes refl
  frame_gives (Err e) comes = told_for m.function.name Frame e (FrameComes forms m.function m.layout) (PassMakes forms m Frame)
      (λ e comes. PassMakes.frames (Err e) (told Frame (plainly (Err e))) comes refl) comes

  pub frame_told : (name : List ℕ) (r : Result Function PassRefusal) (c : Changed) (answer : Answer) → name ≡ m.function.name → c ≡ plainly r →
      answer ≡ spec.told_for name m.combined m.layout Frame c → outcome.Gives r (FrameComes forms m.function m.layout) → Gives answer (PassMakes forms m Frame)
  frame_told name r c answer named made is gives =
      subst (λ (a : Answer). Gives a (PassMakes forms m Frame))
      (sym (is ∙ ap (λ (c : Changed). spec.told_for name m.combined m.layout Frame c) made ∙ ap (λ (n : List ℕ). spec.told_for n m.combined m.layout Frame (plainly r)) named))
      (frame_gives r gives)

  -- ---- homes

  module _ (homes : List HomeOf) (layout : Layout) (layout_is : layout ≡ layout_of m.function homes) (are : AreHomes m.function homes) where
    pub reload_gave : (g : Function) → FunctionReloads forms homes layout m.function (Ok g) →
        PassMakes forms m Reload (Ok (record { function = g; combined = m.combined; layout = layout }))
    reload_gave g gave = PassMakes.reloads homes (Ok g) (Ok (record { function = g; combined = m.combined; layout = layout })) are
        (subst (λ (l : Layout). FunctionReloads forms homes l m.function (Ok g)) layout_is gave)
        (ap (λ (l : Layout). Ok (record { function = g; combined = m.combined; layout = l })) layout_is)

    pub reload_refused : (e : ReloadRefusal) → reloads.RefusesAs e (λ e. FunctionReloads forms homes layout m.function (Err e)) →
        RefusesWith (unreloaded_for m.function.name e) (PassMakes forms m Reload)
    reload_refused e r = told_reloaded m.function.name e (λ e. FunctionReloads forms homes layout m.function (Err e)) (PassMakes forms m Reload)
        (λ e refuses. PassMakes.reloads homes (Err e) (Err (unreloaded_for m.function.name e)) are
        (subst (λ (l : Layout). FunctionReloads forms homes l m.function (Err e)) layout_is refuses) refl) r

  -- ---- what was made, or its length

  -- what a pass refuses is refused
  pub pass_refused : (pass : Pass) (e : Refusal) → RefusesWith e (PassMakes forms m pass) → RefusesWith e (PassComes forms m pass)
  pass_refused pass e r = refuses_map e (PassMakes forms m pass) (PassComes forms m pass) (λ e makes. PassComes.refused e makes) r

  module _ (pass : Pass) (n : Compilation) (count : ℕ) (makes : PassMakes forms m pass (Ok n)) (is : count ≡ count_of n) where
    -- what it makes too long is refused for its length
    pub pass_long : most_made < count → PassComes forms m pass (Err (refusal.Limit Instructions count))
    pass_long many = subst (λ (c : ℕ). PassComes forms m pass (Err (refusal.Limit Instructions c))) (sym is)
        (PassComes.long n makes (subst (λ (c : ℕ). most_made < c) is many))

    -- what else it makes is given
    pub pass_made : count ≤ most_made → PassComes forms m pass (Ok n)
    pass_made short = PassComes.made n makes (subst (λ (c : ℕ). c ≤ most_made) is short)
