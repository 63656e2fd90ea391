-- A function whose registers have homes comes to what the function with its pseudo registers comes
-- to, where it does what each step does.
use Rattle.std.proofs.Common.{◌≡◌, ◌≢◌, ℕ, zero, suc, ◌+◌, ◌<◌, ◌≤◌, if◌then◌else◌, true, false, Some, None, refl, sym, ap, subst, ◌∙◌, arith}
use Rattle.rtx_tree.specs.declared.function.Function.{Function}
use Rattle.rtx_tree.specs.declared.machine.World.{World}
use Rattle.rtl_step.specs.Step.{Stepped, step}
use Rattle.rtl_step.specs.declared.step.State.{State}
use Rattle.rtl_step.specs.declared.step.StepEnd.{StepEnd}
use Rattle.rtl_step.specs.declared.step.StepEnd.TheVariants as ends
use Rattle.func_run.specs.Run as func
use Rattle.func_run.specs.Run.{goes_on, taken_on, taken_from, state_after}
use Rattle.func_run.specs.declared.outcome.Outcome.TheVariants as outcomes
use Rattle.law_function_kept.specs.Ends.{is_past, ends_past}
use Rattle.law_window_lines.proofs.Simulation.{added}
use Rattle.law_reload.specs.Keeps.{ComesToSame}
use Rattle.law_reload.specs.Steps.{Pair, Kept, Leads, Beside, StepsBeside, StepsUnderHomes}
use Rattle.law_reload.specs.Steps as parts

-- ---- a step of a function

module _ (world : World) (h : Function) (n : ℕ) (s s' : State) (e : StepEnd)
    (is : step world h s ≡ (e, s')) where
  run_goes : goes_on e ≡ true → func.run world h (suc n) s ≡ func.run world h n s'
  run_goes on =
      ap (λ (x : Stepped). func.go_on h x.0 x.1 (func.run world h n)) is ∙
      ap (λ b. if b then func.run world h n s' else func.ended h e s') on

  run_ends : goes_on e ≡ false → func.run world h (suc n) s ≡ func.ended h e s'
  run_ends over =
      ap (λ (x : Stepped). func.go_on h x.0 x.1 (func.run world h n)) is ∙
      ap (λ b. if b then func.run world h n s' else func.ended h e s') over

  pub taken_is : taken_from world h (suc n) s ≡ taken_on e s' (taken_from world h n)
  taken_is = ap (λ (x : Stepped). taken_on x.0 x.1 (taken_from world h n)) is

  past_goes : goes_on e ≡ true → ends_past world h (suc n) s ≡ ends_past world h n s'
  past_goes on =
      ap (λ (x : Stepped). if goes_on x.0 then ends_past world h n x.1 else is_past h s) is ∙
      ap (λ b. if b then ends_past world h n s' else is_past h s) on

  past_ends : goes_on e ≡ false → ends_past world h (suc n) s ≡ is_past h s
  past_ends over =
      ap (λ (x : Stepped). if goes_on x.0 then ends_past world h n x.1 else is_past h s) is ∙
      ap (λ b. if b then ends_past world h n s' else is_past h s) over

  state_goes : goes_on e ≡ true → state_after world h (suc n) s ≡ state_after world h n s'
  state_goes on =
      ap (λ (x : Stepped). if goes_on x.0 then state_after world h n x.1 else None) is ∙
      ap (λ b. if b then state_after world h n s' else None) on

-- what is taken behind a step adds to what it takes itself
taken_more : (e : StepEnd) (s : State) (all own : State → ℕ) (later : ℕ) → goes_on e ≡ true →
    all s ≡ own s + later →
    taken_on e s all ≡ taken_on e s own + later
taken_more ends.Next s all own later on is = is
taken_more ends.Jumped s all own later on is = omega (arith, is)
taken_more ends.Called s all own later on is = omega (arith, is)
taken_more ends.Returned s all own later on is = absurd (let no : ⊥ = cc in no)
taken_more ends.Asked s all own later on is = absurd (let no : ⊥ = cc in no)
taken_more ends.Undefined s all own later on is = absurd (let no : ⊥ = cc in no)

-- nothing is taken behind the last
taken_last : (e : StepEnd) (s t : State) (all own : State → ℕ) → goes_on e ≡ false →
    taken_on e s all ≡ taken_on e t own
taken_last ends.Next s t all own over = absurd (let no : ⊥ = cc in no)
taken_last ends.Jumped s t all own over = absurd (let no : ⊥ = cc in no)
taken_last ends.Called s t all own over = absurd (let no : ⊥ = cc in no)
taken_last ends.Returned s t all own over = refl
taken_last ends.Asked s t all own over = refl
taken_last ends.Undefined s t all own over = refl

-- ---- steps of the second

module _ (c : Pair) where
  -- at each state at which one of so many steps is made there stays what has to
  abbrev pub Stays : ℕ → State → Type 0
  Stays n u = (k : ℕ) (t : State) → k < n → state_after c.world c.g k u ≡ Some t → Kept c t

  pub run_on : (k j : ℕ) (u u' : State) → Leads c k u u' →
      func.run c.world c.g (added k j) u ≡ func.run c.world c.g j u'
  run_on _ j _ _ (parts.none u) = refl
  run_on _ j _ _ (parts.more k u next last e kept is on rest) =
      run_goes c.world c.g (added k j) u next e is on ∙ run_on k j next last rest

  pub past_on : (k j : ℕ) (u u' : State) → Leads c k u u' →
      ends_past c.world c.g (added k j) u ≡ ends_past c.world c.g j u'
  past_on _ j _ _ (parts.none u) = refl
  past_on _ j _ _ (parts.more k u next last e kept is on rest) =
      past_goes c.world c.g (added k j) u next e is on ∙ past_on k j next last rest

  pub taken_all : (k j : ℕ) (u u' : State) → Leads c k u u' →
      taken_from c.world c.g (added k j) u ≡ taken_from c.world c.g k u + taken_from c.world c.g j
      u'
  taken_all _ j _ _ (parts.none u) = omega arith
  taken_all _ j _ _ (parts.more k u next last e kept is on rest) =
      let first = taken_is c.world c.g (added k j) u next e is in
      let few = taken_is c.world c.g k u next e is in
      let both = taken_more e next (taken_from c.world c.g (added k j)) (taken_from c.world c.g k)
      (taken_from c.world c.g j last) on
      (taken_all k j next last rest) in
      omega (arith, first, few, both)

  stays_first : (n : ℕ) (u next : State) (e : StepEnd) → Kept c u → step c.world c.g u ≡ (e, next) →
      goes_on e ≡ true → Stays n next →
      Stays (suc n) u
  stays_first n u next e kept is on stays zero t few at = let same : u ≡ t = cc in
      subst (Kept c) same kept
  stays_first n u next e kept is on stays (suc k) t few at =
      stays k t (omega (arith, few)) (sym (state_goes c.world c.g k u next e is on) ∙ at)

  pub stays_on : (k j : ℕ) (u u' : State) → Leads c k u u' → Stays j u' → Stays (added k j) u
  stays_on _ j _ _ (parts.none u) stays = stays
  stays_on _ j _ _ (parts.more k u next last e kept is on rest) stays =
      stays_first (added k j) u next e kept is on (stays_on k j next last rest stays)

  stays_once : (u : State) → Kept c u → Stays 1 u
  stays_once u kept zero t few at = let same : u ≡ t = cc in subst (Kept c) same kept
  stays_once u kept (suc k) t few at = absurd (omega (arith, few))

  -- ---- the induction

  -- some steps of the second come to what n steps of the first come to
  pub record Reaches (n : ℕ) (s u : State) : Type 0 where
    pub count : ℕ
    pub enough : taken_from c.world c.f n s ≤ taken_from c.world c.g count u
    pub same : ComesToSame (func.run c.world c.f n s) (func.run c.world c.g count u)
    pub past : ends_past c.world c.g count u ≡ true → ends_past c.world c.f n s ≡ true
    pub kept : Stays count u

  both_go : (n : ℕ) (s s' u u' : State) (e : StepEnd) (k : ℕ) → step c.world c.f s ≡ (e, s') →
      goes_on e ≡ true → Leads c k u u' →
      taken_from c.world c.f 1 s ≤ taken_from c.world c.g k u → Reaches n s' u' →
      Reaches (suc n) s u
  both_go n s s' u u' e k is on leads few r = record {
    count = added k r.count;
    enough = let all = taken_is c.world c.f n s s' e is in
        let own = taken_is c.world c.f 0 s s' e is in
        let both = taken_more e s' (taken_from c.world c.f n) (taken_from c.world c.f 0)
        (taken_from c.world c.f n s') on (omega arith) in
        let others = taken_all k r.count u u' leads in
        let later = r.enough in
        omega (arith, all, own, both, others, later, few);
    same = subst (λ x. ComesToSame x (func.run c.world c.g (added k r.count) u))
        (sym (run_goes c.world c.f n s s' e is on))
        (subst (λ y. ComesToSame (func.run c.world c.f n s') y) (sym (run_on k r.count u u' leads))
        r.same);
    past = λ there. past_goes c.world c.f n s s' e is on ∙
        r.past (sym (past_on k r.count u u' leads) ∙ there);
    kept = stays_on k r.count u u' leads r.kept;
  }

  both_end : (n : ℕ) (s s' u u' u'' : State) (e : StepEnd) (k : ℕ) → step c.world c.f s ≡ (e, s') →
      goes_on e ≡ false → Leads c k u u' →
      Kept c u' → step c.world c.g u' ≡ (e, u'') → ComesToSame (func.ended c.f e s')
      (func.ended c.g e u'') →
      (is_past c.g u' ≡ true → is_past c.f s ≡ true) → Reaches (suc n) s u
  both_end n s s' u u' u'' e k is over leads kept is' same past = record {
    count = added k 1;
    enough = let own = taken_is c.world c.f n s s' e is in
        let other = taken_is c.world c.g 0 u' u'' e is' in
        let both = taken_last e s' u'' (taken_from c.world c.f n) (taken_from c.world c.g 0) over in
        let others = taken_all k 1 u u' leads in
        omega (arith, own, other, both, others);
    same = subst (λ x. ComesToSame x (func.run c.world c.g (added k 1) u))
        (sym (run_ends c.world c.f n s s' e is over))
        (subst (λ y. ComesToSame (func.ended c.f e s') y)
        (sym (run_on k 1 u u' leads ∙ run_ends c.world c.g 0 u' u'' e is' over)) same);
    past = λ there. past_ends c.world c.f n s s' e is over ∙
        past (sym (past_on k 1 u u' leads ∙ past_ends c.world c.g 0 u' u'' e is' over) ∙ there);
    kept = stays_on k 1 u u' leads (stays_once u' kept);
  }

  module _ (At : ℕ → ℕ → Type 0) (all : StepsUnderHomes c At) where
    abbrev Later : ℕ → Type 0
    Later n = (s u : State) → Beside c At s u → func.run c.world c.f n s ≢ outcomes.Undefined →
        Reaches n s u

    one_more : (n : ℕ) (s u : State) → func.run c.world c.f (suc n) s ≢ outcomes.Undefined →
        Later n → StepsBeside c At s u → Reaches (suc n) s u
    one_more n s u defined later (parts.go e s' u' k is on leads few beside) =
        both_go n s s' u u' e k is on leads few
        (later s' u' beside (λ undefined. defined (run_goes c.world c.f n s s' e is on ∙
        undefined)))
    one_more n s u defined later (parts.end e s' u' u'' k is over leads kept is' same past) =
        both_end n s s' u u' u'' e k is over leads kept is' same past
    one_more n s u defined later (parts.never s' is) = absurd
        (defined (run_ends c.world c.f n s s' ends.Undefined is refl))

    -- the second comes to what so many steps of the first come to
    pub follows : (n : ℕ) → Later n
    follows zero s u beside defined = record {
      count = 0;
      enough = omega arith;
      same = beside.stands.calls;
      past = λ there. there;
      kept = λ k t few at. absurd (omega (arith, few));
    }
    follows (suc n) s u beside defined = one_more n s u defined (follows n) (all.steps s u beside)
