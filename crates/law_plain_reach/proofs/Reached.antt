-- A form with an alternative that is enabled and reachable is not refused.
use Rattle.std.proofs.Common.{◌≡◌, ℕ, ◌<◌, true, List, Some, None, sym, ap, ◌∙◌}
use Rattle.std.specs.Prelude.{if◌then◌else◌}
use Rattle.md_forms.specs.declared.form.Entry.{Entry}
use Rattle.reload_fit.specs.md_desc.md_attr.Alternatives.{alternatives_of}
use Rattle.reload_fit.specs.md_desc.md_attr.Values.{is_enabled}
use Rattle.reload_moves.specs.declared.fitting.Fitting.{Fitting}
use Rattle.reload_moves.specs.Moved.{parts_of}
use Rattle.reload_fit.specs.Fitting.{asks_of, constraints_of, fittings_of}
use Rattle.reload_choice.specs.declared.given.Given.{Given}
use Rattle.reload_choice.specs.declared.given.Plan.{Plan}
use Rattle.reload_choice.specs.Choice.{plan_with, plan_if, plan_by, plan_for, plan_at, NoneReaches}
use Rattle.reload_choice.specs.Movable.{formed_of, is_reachable}

-- an alternative that is reachable, by how its operands stand
pub record Reaches (forms : List Entry) (form : ℕ) (given : Given) : Type 0 where
  pub alternative : ℕ
  pub below : alternative < alternatives_of forms form
  pub enabled : is_enabled forms form alternative ≡ true
  pub fits : List Fitting
  pub fits_are : fittings_of (asks_of forms form alternative) given.operands ≡ fits
  pub reachable : is_reachable (asks_of forms form alternative) given.operands given fits (formed_of given) (parts_of fits) ≡ true

module _ (forms : List Entry) (form : ℕ) (given : Given) (r : Reaches forms form given) where
  abbrev plan : Plan
  plan = plan_with (constraints_of forms form) r.alternative (parts_of r.fits)

  planned : plan_at forms form given r.alternative ≡ Some plan
  planned =
      let asks = asks_of forms form r.alternative in
      let constraints = constraints_of forms form in
      ap (λ b. if b then plan_by asks constraints given.operands given (formed_of given) r.alternative else None) r.enabled ∙
      (ap (plan_for asks constraints given.operands given (formed_of given) r.alternative) r.fits_are ∙
      ap (λ b. plan_if b constraints r.alternative (parts_of r.fits)) r.reachable)

  pub never_refused : NoneReaches forms form given → ⊥
  never_refused none = let same : Some plan ≡ None = sym planned ∙ none r.alternative r.below in let no : ⊥ = cc in no
