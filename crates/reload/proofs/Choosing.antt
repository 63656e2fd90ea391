-- One plan is chosen, or none is.
use Rattle.std.proofs.Common.{◌≡◌, ⊎_elim, ℕ, List, Option, Some, None, sym, ap, ◌∙◌, arith}
use Rattle.md_forms.specs.declared.form.Entry.{Entry}
use Rattle.reload_choice.specs.declared.given.Given.{Given}
use Rattle.reload_choice.specs.declared.given.Plan.{Plan}
use Rattle.reload_choice.specs.Choice.{plan_at, IsChosen, NoneReaches}
use Rattle.reload.proofs.Matching.{order}

-- ---- one plan

same_some : (p q : Plan) (o : Option Plan) → o ≡ Some p → o ≡ Some q → p ≡ q
same_some p q o here there = let both : Some p ≡ Some q = sym here ∙ there in let same : p ≡ q = cc in same

none_some : {P : Type 0} (p : Plan) (o : Option Plan) → o ≡ Some p → o ≡ None → P
none_some p o here none = absurd (let both : Some p ≡ None = sym here ∙ none in let never : ⊥ = cc in never)

module _ (forms : List Entry) (form : ℕ) (given : Given) where
  pub chosen_one : (p q : Plan) → IsChosen forms form given p → IsChosen forms form given q → p ≡ q
  chosen_one p q a b = ⊎_elim
      (λ order. ⊎_elim
      (λ below. absurd (let less = b.1.lowest a.0 p below a.1.here in let most =
      a.1.least b.0 q b.1.below b.1.here in let never : ⊥ = omega (arith, less, most) in never))
      (λ above. absurd (let less = a.1.lowest b.0 q above b.1.here in let most =
      b.1.least a.0 p a.1.below a.1.here in let never : ⊥ = omega (arith, less, most) in never))
      order)
      (λ same. same_some p q (plan_at forms form given a.0) a.1.here (ap (plan_at forms form given) same ∙ b.1.here))
      (order a.0 b.0)

  pub chosen_not : {P : Type 0} (p : Plan) → IsChosen forms form given p → NoneReaches forms form given → P
  chosen_not p a none = none_some p (plan_at forms form given a.0) a.1.here (none a.0 a.1.below)
