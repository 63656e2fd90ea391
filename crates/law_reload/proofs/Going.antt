-- What both functions do at once.
use Rattle.std.proofs.Common.{◌≡◌, ℕ, zero, true, refl, arith}
use Rattle.rtl_step.specs.Step.{step}
use Rattle.rtl_step.specs.declared.step.State.{State}
use Rattle.rtl_step.specs.declared.step.StepEnd.{StepEnd}
use Rattle.rtl_step.specs.declared.step.StepEnd.TheVariants as ends
use Rattle.func_run.specs.Run.{goes_on, taken_on, taken_from}
use Rattle.law_window_lines.proofs.Simulation.{added}
use Rattle.law_reload.specs.Steps.{Pair, Kept, Leads, Beside, StepsBeside}
use Rattle.law_reload.specs.Steps as parts
use Rattle.law_reload.proofs.Induction.{taken_is, taken_all}

module _ (c : Pair) where
  pub leads_both : (k j : ℕ) (u u' u'' : State) → Leads c k u u' → Leads c j u' u'' →
      Leads c (added k j) u u''
  leads_both _ j _ _ u'' (parts.none u) later = later
  leads_both _ j _ _ u'' (parts.more k u next last e kept is on rest) later =
      parts.more (added k j) u next u'' e kept is on (leads_both k j next last u'' rest later)

  same_taken : (e : StepEnd) (s' u' : State) → taken_on e s' (taken_from c.world c.f zero) ≡
      taken_on e u' (taken_from c.world c.g zero)
  same_taken ends.Next s' u' = refl
  same_taken ends.Jumped s' u' = refl
  same_taken ends.Called s' u' = refl
  same_taken ends.Returned s' u' = refl
  same_taken ends.Asked s' u' = refl
  same_taken ends.Undefined s' u' = refl

  module _ (At : ℕ → ℕ → Type 0) (s u : State) where
    -- the first goes on to the next instruction
    pub go_next : (s' u' : State) (k : ℕ) → step c.world c.f s ≡ (ends.Next, s') → Leads c k u u' →
        Beside c At s' u' → StepsBeside c At s u
    go_next s' u' k is leads beside =
        parts.go ends.Next s' u' k is refl leads (let own =
        taken_is c.world c.f 0 s s' ends.Next is in omega (arith, own)) beside

    -- some steps lead the second to where it goes on as the first does
    pub go_both : (s' u' u'' : State) (e : StepEnd) (k : ℕ) → step c.world c.f s ≡ (e, s') →
        goes_on e ≡ true → Leads c k u u' → Kept c u' →
        step c.world c.g u' ≡ (e, u'') → Beside c At s' u'' → StepsBeside c At s u
    go_both s' u' u'' e k is on leads kept is' beside =
        parts.go e s' u'' (added k 1) is on
        (leads_both k 1 u u' u'' leads (parts.more 0 u' u'' u'' e kept is' on (parts.none u'')))
        (let own = taken_is c.world c.f 0 s s' e is in
        let other = taken_is c.world c.g 0 u' u'' e is' in
        let same = same_taken e s' u'' in
        let all = taken_all c k 1 u u' leads in
        omega (arith, own, other, same, all)) beside
