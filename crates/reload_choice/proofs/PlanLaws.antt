-- The plan of an alternative, as the code comes to it.
use Rattle.std.proofs.Common.{◌≡◌, ℕ, Bool, List, Option, Result, IfOk, ap, subst, ◌∙◌}
use Rattle.md_forms.specs.declared.form.OperandConstraint.{OperandConstraint}
use Rattle.md_forms.specs.declared.form.Entry.{Entry}
use Rattle.reload_operands.specs.declared.operand.Operand.{Operand}
use Rattle.reload_moves.specs.declared.fitting.Fitting.{Fitting}
use Rattle.reload_moves.specs.declared.part.Part.{Part}
use Rattle.reload_moves.specs.Moved.{parts_of}
use Rattle.reload_fit.specs.Fitting.{Asks, asks_by, fittings_of}
use Rattle.reload_choice.specs.declared.given.Given.{Given}
use Rattle.reload_choice.specs.declared.given.Plan.{Plan}
use Rattle.reload_choice.specs.Movable.{is_reachable}
use Rattle.reload_choice.specs.Choice.{plan_if, plan_by}

module _ (constraints : List OperandConstraint) (given : Given) (formed : List Bool) (alternative : ℕ) where
  abbrev pub plan_over : Asks → List Operand → List Fitting → List Part → Option Plan
  plan_over asks operands fits parts =
      plan_if (is_reachable asks operands given fits formed parts) constraints alternative parts

  -- by what is moved, once it is known how each operand stands; the list is seen twice
  pub planned_by : {E : Type 0} (r : Result (Option Plan) E) (asks : Asks) (operands : List Operand) (fits seen again : List Fitting)
      (parts : List Part) →
      fits ≡ fittings_of asks operands → seen ≡ fits → again ≡ fits → parts ≡ parts_of seen →
      IfOk r (λ plan. plan ≡ plan_over asks operands again parts) →
      IfOk r (λ plan. plan ≡ plan_by asks constraints operands given formed alternative)
  planned_by r asks operands fits seen again parts is_fits is_seen is_again is_parts planned =
      let whole = fittings_of asks operands in
      subst (λ (ps : List Part). IfOk r (λ plan. plan ≡ plan_over asks operands whole ps))
      (is_parts ∙ ap parts_of (is_seen ∙ is_fits))
      (subst (λ (fs : List Fitting). IfOk r (λ plan. plan ≡ plan_over asks operands fs parts)) (is_again ∙ is_fits) planned)

  abbrev pub plan_under : List Entry → ℕ → List Operand → Option Plan
  plan_under forms form operands =
      plan_by (asks_by forms form constraints alternative) constraints operands given formed alternative

  -- over the operands of the instruction
  pub planned_in : {E : Type 0} (r : Result (Option Plan) E) (forms : List Entry) (form : ℕ) (seen : List Operand) →
      seen ≡ given.operands →
      IfOk r (λ plan. plan ≡ plan_under forms form seen) → IfOk r (λ plan. plan ≡ plan_under forms form given.operands)
  planned_in r forms form seen is planned =
      subst (λ (xs : List Operand). IfOk r (λ plan. plan ≡ plan_under forms form xs)) is planned
