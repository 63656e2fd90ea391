-- The plan that is kept is the one that is asked for, and is sound.
use Rattle.std.proofs.Common.{◌≡◌, ◌↔◌, ℕ, Bool, List, Option, Some, None, Result, IfOk, IfSome, refl, sym, ap, subst, ◌∙◌, rules}
use Rattle.std.proofs.lemmas.Result.{IfOk-weaker}
use Rattle.md_forms.specs.declared.form.OperandConstraint.{OperandConstraint}
use Rattle.md_forms.specs.declared.form.Entry.{Entry}
use Rattle.reload_fit.specs.md_desc.md_attr.Alternatives.{alternatives_of}
use Rattle.reload_fit.specs.Fitting.{constraints_of}
use Rattle.reload_choice.specs.declared.given.Given.{Given}
use Rattle.reload_choice.specs.declared.given.Plan.{Plan}
use Rattle.reload_choice.specs.Movable.{formed_of}
use Rattle.reload_choice.specs.Choice.{plan_among, plan_at, IsChosen, NoneReaches}
use Rattle.reload_choice.specs.Sound.{IsSoundPlan}
use Rattle.reload_choice.specs.machine.Least.{best_upto}
use Rattle.reload_choice.proofs.LeastLaws.{best_is, none_is}
use Rattle.reload_choice.proofs.SoundLaws.{sound_at}

module _ (forms : List Entry) (form : ℕ) (given : Given) where
  abbrev pub IsBestOf : Option Plan → Type 0
  IsBestOf o = o ≡ best_upto (plan_at forms form given) (alternatives_of forms form)

  sound_some : (o : Option Plan) → ((plan : Plan) → o ≡ Some plan → IsSoundPlan given plan) → IfSome o (IsSoundPlan given)
  sound_some None each = search rules
  sound_some (Some plan) each = each plan refl

  one_is : (o : Option Plan) → IsBestOf o → (plan : Plan) → (o ≡ Some plan) ↔ IsChosen forms form given plan
  one_is o is plan =
      subst (λ (p : Option Plan). (p ≡ Some plan) ↔ IsChosen forms form given plan) (sym is)
      (best_is (plan_at forms form given) (alternatives_of forms form) plan)

  none_of : (o : Option Plan) → IsBestOf o → o ≡ None → NoneReaches forms form given
  none_of o is none = none_is (plan_at forms form given) (alternatives_of forms form) (sym is ∙ none)

  sound_is : (o : Option Plan) → IsBestOf o → IfSome o (IsSoundPlan given)
  sound_is o is = sound_some o (λ plan some.
      let best = (one_is o is plan).0 some in
      sound_at forms form given best.0 plan best.1.here)

  -- what the code keeps, over the constraints that it has looked up and what it has found replaceable
  abbrev pub IsKept : List OperandConstraint → List Bool → Option Plan → Type 0
  IsKept constraints formed o =
      o ≡ best_upto (plan_among forms form constraints given formed) (alternatives_of forms form)

  abbrev pub AreTheirs : List OperandConstraint → List Bool → Type 0
  AreTheirs constraints formed = (constraints ≡ constraints_of forms form) × (formed ≡ formed_of given)

  kept_is : (constraints : List OperandConstraint) (formed : List Bool) → AreTheirs constraints formed →
      (o : Option Plan) → IsKept constraints formed o → IsBestOf o
  kept_is constraints formed theirs o is =
      let most = alternatives_of forms form in
      is ∙ (ap (λ (c : List OperandConstraint). best_upto (plan_among forms form c given formed) most) theirs.0 ∙
      ap (λ (f : List Bool). best_upto (plan_among forms form (constraints_of forms form) given f) most) theirs.1)

  pub chosen : {E : Type 0} (r : Result (Option Plan) E) (constraints : List OperandConstraint) (formed : List Bool) →
      AreTheirs constraints formed → IfOk r (IsKept constraints formed) →
      IfOk r (λ o. (plan : Plan) → (o ≡ Some plan) ↔ IsChosen forms form given plan)
  chosen r constraints formed theirs =
      IfOk-weaker r (IsKept constraints formed) (λ o. (plan : Plan) → (o ≡ Some plan) ↔ IsChosen forms form given plan)
      (λ o is. one_is o (kept_is constraints formed theirs o is))

  pub none_chosen : {E : Type 0} (r : Result (Option Plan) E) (constraints : List OperandConstraint) (formed : List Bool) →
      AreTheirs constraints formed → IfOk r (IsKept constraints formed) → IfOk r (λ o. o ≡ None → NoneReaches forms form given)
  none_chosen r constraints formed theirs =
      IfOk-weaker r (IsKept constraints formed) (λ o. o ≡ None → NoneReaches forms form given)
      (λ o is. none_of o (kept_is constraints formed theirs o is))

  pub sound_chosen : {E : Type 0} (r : Result (Option Plan) E) (constraints : List OperandConstraint) (formed : List Bool) →
      AreTheirs constraints formed → IfOk r (IsKept constraints formed) → IfOk r (λ o. IfSome o (IsSoundPlan given))
  sound_chosen r constraints formed theirs =
      IfOk-weaker r (IsKept constraints formed) (λ o. IfSome o (IsSoundPlan given))
      (λ o is. sound_is o (kept_is constraints formed theirs o is))
