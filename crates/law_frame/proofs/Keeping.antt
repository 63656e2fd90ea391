-- A function with its frame does what the function does in a frame that others make and leave.
use Rattle.std.proofs.Common.{◌≡◌, ◌≢◌, ℕ, zero, suc, ◌+◌, ◌<◌, ◌≤◌, if◌then◌else◌, Bool, true, false, length, List, ◌∷◌, ◌++◌, Option, Some, None, refl, sym, ap, subst, ◌∙◌, arith}
use Rattle.std.specs.Prelude.{is_some, option_and_then}
use Rattle.bits64.specs.declared.Width.{Width}
use Rattle.rtx_tree.specs.declared.code.Mode.{Mode}
use Rattle.rtx_tree.specs.declared.function.Function.{Function}
use Rattle.rtx_tree.specs.declared.function.Insn.{Insn}
use Rattle.rtx_tree.specs.declared.function.Kind.TheVariants as kind
use Rattle.rtx_tree.specs.declared.machine.Start.{Start}
use Rattle.run_memory.specs.RunMemory.{visible}
use Rattle.rtl_step.specs.Regs.{Regs, reg_value}
use Rattle.rtl_step.specs.Step.{Stepped, step, after_jump, after_return, has_result, result_of}
use Rattle.rtl_step.specs.Value.{width_of}
use Rattle.rtl_step.specs.declared.step.State.{State}
use Rattle.rtl_step.specs.declared.step.StepEnd.{StepEnd}
use Rattle.rtl_step.specs.declared.step.StepEnd.TheVariants as ends
use Rattle.func_run.specs.Run as func
use Rattle.func_run.specs.declared.outcome.Outcome.TheVariants as outcomes
use Rattle.law_function_kept.specs.Ends.{is_past, ends_past}
use Rattle.same_behaviour.specs.Lawful.{IsLawful}
use Rattle.law_window_replaced.specs.law_window_kept.Same.{KnownToo}
use Rattle.law_window_replaced.proofs.law_window_lines.Returns.{leaves}
use Rattle.law_window_replaced.proofs.law_window_lines.Simulation.{added}
use Rattle.law_window_replaced.proofs.Stands.{Stands, step_is}
use Rattle.law_frame.specs.Frame.{epilogue, return_with, leaving}
use Rattle.law_frame.specs.Kept.{IsKept}
use Rattle.law_frame.specs.Keeps.{with_saved, IsLaidOut, Restores}
use Rattle.law_frame.proofs.Straight.{run_behind, past_behind}
use Rattle.law_frame.proofs.Held.{found_again}
use Rattle.law_frame.proofs.Chain.{return_is}
use Rattle.law_frame.proofs.Lockstep as lockstep
use Rattle.law_frame.proofs.Lockstep.{Alike, Framing, Beside, Both, not_past, step_both}
use Rattle.law_frame.proofs.Registers.{value_alike}
use Rattle.law_frame.proofs.Epilogue.{leaves_frame, result_stays}

-- ---- results

result_by : (mode : Mode) (a b : Regs) (w : Option Width) → width_of mode ≡ w → is_some (option_and_then (reg_value a 10) w) ≡ true →
    KnownToo a b 10 → option_and_then (reg_value b 10) w ≡ option_and_then (reg_value a 10) w
result_by mode a b None is has known = refl
result_by mode a b (Some w) is has known = by (reg_value a 10 w) refl has
  where
    by : (o : Option ℕ) → reg_value a 10 w ≡ o → is_some o ≡ true → reg_value b 10 w ≡ reg_value a 10 w
    by None is has = absurd (let no : ⊥ = cc in no)
    by (Some v) is has = known w v is ∙ sym is

same_result : (mode : Option Mode) (a b : Regs) → has_result mode a ≡ true → KnownToo a b 10 → result_of mode b ≡ result_of mode a
same_result None a b has known = refl
same_result (Some mode) a b has known = result_by mode a b (width_of mode) refl has known

has_too : (mode : Option Mode) (a b : Regs) → result_of mode b ≡ result_of mode a → has_result mode a ≡ true → has_result mode b ≡ true
has_too None a b same has = refl
has_too (Some mode) a b same has = ap is_some same ∙ has

module _ (c : Framing) (start : Start) (lawful : IsLawful c.layout.size c.f.locals start) (out : IsLaidOut c.f.locals c.layout)
    (result_is : c.g.result ≡ c.f.result) where
  abbrev inner : Start
  inner = with_saved c.layout start

  -- some steps of the second come to what n steps of the first come to
  pub record Reaches (n : ℕ) (s u : State) : Type 0 where
    pub count : ℕ
    pub enough : func.taken_from c.world c.f n s ≤ func.taken_from c.world c.g count u
    pub restores : Restores start (func.run c.world c.f n s) (func.run c.world c.g count u)
    pub within : ends_past c.world c.g count u ≡ false

  -- from a state on there stays what has to
  abbrev Stays : ℕ → State → Type 0
  Stays n s = (k : ℕ) (t : State) → k < n → func.state_after c.world c.f k s ≡ Some t → IsKept c.f.locals c.layout inner t

  -- ---- both go on

  step_goes : (h : Function) (n : ℕ) (s s' : State) (e : StepEnd) → step c.world h s ≡ (e, s') → func.goes_on e ≡ true →
      func.run c.world h (suc n) s ≡ func.run c.world h n s'
  step_goes h n s s' e is on =
      ap (λ (x : Stepped). func.go_on h x.0 x.1 (func.run c.world h n)) is ∙
      ap (λ b. if b then func.run c.world h n s' else func.ended h e s') on

  taken_goes : (h : Function) (n : ℕ) (s s' : State) (e : StepEnd) → step c.world h s ≡ (e, s') →
      func.taken_from c.world h (suc n) s ≡ func.taken_on e s' (func.taken_from c.world h n)
  taken_goes h n s s' e is = ap (λ (x : Stepped). func.taken_on x.0 x.1 (func.taken_from c.world h n)) is

  step_ends : (h : Function) (n : ℕ) (s s' : State) (e : StepEnd) → step c.world h s ≡ (e, s') → func.goes_on e ≡ false →
      func.run c.world h (suc n) s ≡ func.ended h e s'
  step_ends h n s s' e is over =
      ap (λ (x : Stepped). func.go_on h x.0 x.1 (func.run c.world h n)) is ∙
      ap (λ b. if b then func.run c.world h n s' else func.ended h e s') over

  past_goes : (n : ℕ) (u u' : State) (e : StepEnd) → step c.world c.g u ≡ (e, u') → func.goes_on e ≡ true →
      ends_past c.world c.g (suc n) u ≡ ends_past c.world c.g n u'
  past_goes n u u' e is on =
      ap (λ (x : Stepped). if func.goes_on x.0 then ends_past c.world c.g n x.1 else is_past c.g u) is ∙
      ap (λ b. if b then ends_past c.world c.g n u' else is_past c.g u) on

  past_ends : (n : ℕ) (u u' : State) (e : StepEnd) → step c.world c.g u ≡ (e, u') → func.goes_on e ≡ false →
      ends_past c.world c.g (suc n) u ≡ is_past c.g u
  past_ends n u u' e is over =
      ap (λ (x : Stepped). if func.goes_on x.0 then ends_past c.world c.g n x.1 else is_past c.g u) is ∙
      ap (λ b. if b then ends_past c.world c.g n u' else is_past c.g u) over

  counted : (e : StepEnd) (s' u' : State) (n m : ℕ) → func.taken_from c.world c.f n s' ≤ func.taken_from c.world c.g m u' →
      func.goes_on e ≡ true →
      func.taken_on e s' (func.taken_from c.world c.f n) ≤ func.taken_on e u' (func.taken_from c.world c.g m)
  counted ends.Next s' u' n m few on = few
  counted ends.Jumped s' u' n m few on = omega (arith, few)
  counted ends.Called s' u' n m few on = omega (arith, few)
  counted ends.Returned s' u' n m few on = absurd (let no : ⊥ = cc in no)
  counted ends.Asked s' u' n m few on = absurd (let no : ⊥ = cc in no)
  counted ends.Undefined s' u' n m few on = absurd (let no : ⊥ = cc in no)

  both_go : (n : ℕ) (s u s' u' : State) (e : StepEnd) → step c.world c.f s ≡ (e, s') → func.goes_on e ≡ true →
      step c.world c.g u ≡ (e, u') → Reaches n s' u' → Reaches (suc n) s u
  both_go n s u s' u' e is on is' r = record {
    count = suc r.count;
    enough = subst (λ x. x ≤ func.taken_from c.world c.g (suc r.count) u) (sym (taken_goes c.f n s s' e is))
        (subst (λ y. func.taken_on e s' (func.taken_from c.world c.f n) ≤ y) (sym (taken_goes c.g r.count u u' e is'))
        (counted e s' u' n r.count r.enough on));
    restores = subst (λ x. Restores start x (func.run c.world c.g (suc r.count) u)) (sym (step_goes c.f n s s' e is on))
        (subst (λ y. Restores start (func.run c.world c.f n s') y) (sym (step_goes c.g r.count u u' e is' on)) r.restores);
    within = past_goes r.count u u' e is' on ∙ r.within;
  }

  -- ---- both are at a call without a reply

  both_ask : (n : ℕ) (s u s' u' : State) → step c.world c.f s ≡ (ends.Asked, s') → step c.world c.g u ≡ (ends.Asked, u') → u'.calls ≡ s'.calls →
      is_past c.g u ≡ false → Reaches (suc n) s u
  both_ask n s u s' u' is is' same inside = record {
    count = 1;
    enough = let one = taken_goes c.f n s s' ends.Asked is in let two = taken_goes c.g 0 u u' ends.Asked is' in omega (arith, one, two);
    restores = subst (λ x. Restores start x (func.run c.world c.g 1 u)) (sym (step_ends c.f n s s' ends.Asked is refl))
        (subst (λ y. Restores start (outcomes.Asked s'.calls) y) (sym (step_ends c.g 0 u u' ends.Asked is' refl)) same);
    within = past_ends 0 u u' ends.Asked is' refl ∙ inside;
  }

  -- ---- the first returns

  module _ (n : ℕ) (s u : State) (alike : Alike s u) (kept : IsKept c.f.locals c.layout inner s)
      (took : step c.world c.f s ≡ after_return c.f.result s) where
    no_value : has_result c.f.result s.regs ≡ false → func.run c.world c.f (suc n) s ≢ outcomes.Undefined → Reaches (suc n) s u
    no_value none defined = absurd (defined (step_ends c.f n s s ends.Undefined
        (took ∙ ap (λ b. if b then (ends.Returned, s) else (ends.Undefined, s)) none) refl))

    -- the return of the second
    step_return : (t : State) (uid q : ℕ) (more : List Insn) → Stands c.g.insns t.next (return_with uid ∷ more) q →
        step c.world c.g t ≡ after_return c.f.result t
    step_return t uid q more stands =
        step_is c.world c.g t (return_with uid) more q kind.Jump stands refl refl ∙
        ap (after_jump c.g t q) (leaves (return_with uid) c.world.symbols t.regs t.memory return_is) ∙
        ap (λ r. after_return r t) result_is

    with_value : has_result c.f.result s.regs ≡ true → (m q : ℕ) (more : List Insn) → Stands c.g.insns u.next (leaving c.layout m ++ more) q →
        Reaches (suc n) s u
    with_value has m q more stands =
        let l = leaves_frame c.world c.g start c.f.locals c.layout lawful out s u alike kept m q more stands in
        let b = l in
        let t = b.after in
        let known : KnownToo s.regs t.regs 10 = λ w v is.
        value_alike u.regs t.regs 10 w
        (result_stays c.world c.g start c.f.locals c.layout lawful out s u alike kept (return_with (m + length (epilogue c.layout)) ∷ more) l) ∙
        alike.known 10 w v is in
        let result = same_result c.f.result s.regs t.regs has known in
        let first : step c.world c.f s ≡ (ends.Returned, s) = took ∙ ap (λ b. if b then (ends.Returned, s) else (ends.Undefined, s)) has in
        let second : step c.world c.g t ≡ (ends.Returned, t) = step_return t (m + length (epilogue c.layout)) b.place more b.stands ∙
        ap (λ b. if b then (ends.Returned, t) else (ends.Undefined, t)) (has_too c.f.result s.regs t.regs result has) in
        let memory_same : visible t.visible t.memory ≡ visible s.visible s.memory =
        ap (λ ranges. visible ranges t.memory) (b.visible_is ∙ alike.visible_is) ∙ ap (visible s.visible) (b.memory_is ∙ alike.memory_is) in record {
          count = added b.count 1;
          enough = let one = taken_goes c.f n s s ends.Returned first in omega (arith, one);
          restores = subst (λ x. Restores start x (func.run c.world c.g (added b.count 1) u)) (sym (step_ends c.f n s s ends.Returned first refl))
              (subst (λ y. Restores start (func.returned c.f s) y)
              (sym (run_behind c.world c.g b.count 1 u t b.steps_are ∙ step_ends c.g 0 t t ends.Returned second refl)) (
                ap (λ r. result_of r t.regs) result_is ∙ result,
                memory_same,
                b.calls_are ∙ alike.calls_are,
                found_again start lawful.words t.regs l.holds,
              ));
          within = past_behind c.world c.g b.count 1 u t b.steps_are ∙ past_ends 0 t t ends.Returned second refl ∙
              not_past c.g t (return_with (m + length (epilogue c.layout))) more b.place b.stands refl;
        }

    by_result : (has : Bool) → has_result c.f.result s.regs ≡ has → (m q : ℕ) (more : List Insn) →
        Stands c.g.insns u.next (leaving c.layout m ++ more) q → func.run c.world c.f (suc n) s ≢ outcomes.Undefined → Reaches (suc n) s u
    by_result true is m q more stands defined = with_value is m q more stands
    by_result false is m q more stands defined = no_value is defined

  -- ---- so many steps

  stays_on : (n : ℕ) (s s' : State) (e : StepEnd) → step c.world c.f s ≡ (e, s') → func.goes_on e ≡ true → Stays (suc n) s → Stays n s'
  stays_on n s s' e is on stays k t few at = stays (suc k) t (omega (arith, few))
      (ap (λ (x : Stepped). if func.goes_on x.0 then func.state_after c.world c.f k x.1 else None) is ∙
      ap (λ b. if b then func.state_after c.world c.f k s' else None) on ∙ at)

  abbrev Later : ℕ → Type 0
  Later n = (s u : State) → Beside c s u → Stays n s → func.run c.world c.f n s ≢ outcomes.Undefined → Reaches n s u

  one_more : (n : ℕ) (s u : State) → Alike s u → Stays (suc n) s → func.run c.world c.f (suc n) s ≢ outcomes.Undefined → Later n → Both c s u →
      Reaches (suc n) s u
  one_more n s u alike stays defined later (lockstep.go e s' u' is on is' next) = both_go n s u s' u' e is on is'
      (later s' u' next (stays_on n s s' e is on stays) (λ undefined. defined (step_goes c.f n s s' e is on ∙ undefined)))
  one_more n s u alike stays defined later (lockstep.ask s' u' is is' same inside) =
      both_ask n s u s' u' is is' same inside
  one_more n s u alike stays defined later (lockstep.leave m q more took stands) =
      by_result n s u alike (stays 0 s (omega arith) refl) took (has_result c.f.result s.regs) refl m q more stands defined
  one_more n s u alike stays defined later (lockstep.never s' is) = absurd (defined (step_ends c.f n s s' ends.Undefined is refl))

  pub follows : (n : ℕ) → Later n
  follows zero s u beside stays defined = record { count = 0; enough = omega arith; restores = beside.alike.calls_are; within = refl }
  follows (suc n) s u beside stays defined = one_more n s u beside.alike stays defined (follows n) (step_both c s u beside)
