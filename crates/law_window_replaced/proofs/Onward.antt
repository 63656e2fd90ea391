-- What both runs do at once: they go on, are at a call, or return.
use Rattle.std.proofs.Common.{◌≡◌, ℕ, zero, suc, ◌+◌, ◌≤◌, ◌==◌, ◌&&◌, arith, if◌then◌else◌, Bool, true, false, drop, length, List, [], ◌∷◌, Option, Some, None, refl, sym, ap, subst, ◌∙◌}
use Rattle.std.specs.Prelude.{slice_get, option_and_then, is_some}
use Rattle.std.specs.List.{All}
use Rattle.std.proofs.lemmas.List.Elements.{All-head, All-tail}
use Rattle.bits64.specs.declared.Width.{Width}
use Rattle.bits64.specs.declared.Width.TheVariants.{W64}
use Rattle.rtx_tree.specs.Patterns.{place_of}
use Rattle.rtx_tree.specs.RegSet.{has_reg}
use Rattle.rtx_tree.specs.Registers.{is_call_used}
use Rattle.rtx_tree.specs.declared.code.Mode.{Mode}
use Rattle.rtx_tree.specs.declared.function.Insn.{Insn}
use Rattle.rtx_tree.specs.declared.machine.Reply.{Reply}
use Rattle.run_memory.specs.RunMemory.{visible, written}
use Rattle.rtl_step.specs.Regs.{Regs, reg_value}
use Rattle.rtl_step.specs.Step as rtl
use Rattle.rtl_step.specs.Step.{Stepped, step, after_goes, after_reply, next_reply, after_return, has_result, result_of}
use Rattle.rtl_step.specs.Value.{width_of}
use Rattle.rtl_step.specs.declared.call.CallEvent.{CallEvent}
use Rattle.rtl_step.specs.declared.step.State.{State}
use Rattle.rtl_step.specs.declared.step.StepEnd.{StepEnd}
use Rattle.rtl_step.specs.declared.step.StepEnd.TheVariants as ends
use Rattle.func_run.specs.Run as func
use Rattle.func_run.specs.Run.{goes_on}
use Rattle.rv_regs.specs.Registers.{kept_registers}
use Rattle.reg_uses.specs.Uses.{function_sets, return_uses}
use Rattle.live.specs.Live.{IsLive}
use Rattle.same_behaviour.specs.Lawful.{IsMemory}
use Rattle.law_function_kept.specs.Keeps.{IsMachineReply}
use Rattle.law_function_kept.specs.Ends.{is_past}
use Rattle.law_function_kept.specs.Outcomes.{SameEvent, SameEvents, SameOutcome, KeptToo}
use Rattle.law_kept_composed.proofs.Events.{events_more}
use Rattle.law_window_kept.specs.Same.{KnownToo}
use Rattle.law_window_lines.proofs.Memories.{memory_written}
use Rattle.law_window_lines.proofs.Returns.{result_used}
use Rattle.law_window_lines.proofs.Simulation as machine
use Rattle.law_window_lines.proofs.Simulation.{added}
use Rattle.law_window_lines.proofs.Small.{◌also◌}
use Rattle.law_window_replaced.proofs.Known.{or_later}
use Rattle.law_window_replaced.proofs.Machine.{turn_ends, one_weighs, then_one}
use Rattle.law_window_replaced.proofs.Replied.{replied_too}
use Rattle.law_window_replaced.proofs.Setting.{Setting, new_of, Alike, Related, outside, Past, Moves, Simulates, EndsWell, Onward}
use Rattle.law_window_replaced.proofs.Stands.{Stands, stands_at}
use Rattle.law_window_replaced.proofs.Twins.{twin}
use Rattle.law_window_replaced.specs.Replaced.{AreReplaced}

-- ---- what a list has

of_all : {X : Type 0} (P : X → Type 0) (xs : List X) (n : ℕ) (x : X) → All P xs → slice_get xs n ≡ Some x → P x
of_all P [] n x all is = absurd (let no : ⊥ = cc in no)
of_all P (y ∷ ys) zero x all is = let same : y ≡ x = cc in subst P same (All-head P y ys all)
of_all P (y ∷ ys) (suc n) x all is = of_all P ys n x (All-tail P y ys all) is

-- ---- what is returned

result_by : (mode : Mode) (a b : Regs) (o : Option ℕ) (w : Option Width) → width_of mode ≡ w →
    option_and_then (reg_value a 10) w ≡ o → is_some o ≡ true → KnownToo a b 10 → option_and_then (reg_value b 10) w ≡ o
result_by mode a b o None is_w is has too = is
result_by mode a b None (Some w) is_w is has too = absurd (let no : ⊥ = cc in no)
result_by mode a b (Some v) (Some w) is_w is has too = too w v is

same_result : (mode : Option Mode) (a b : Regs) → (is_some mode ≡ true → KnownToo a b 10) → has_result mode a ≡ true →
    result_of mode b ≡ result_of mode a
same_result None a b too has = refl
same_result (Some mode) a b too has = result_by mode a b (result_of (Some mode) a) (width_of mode) refl refl has (too refl)

has_too : (mode : Option Mode) (a b : Regs) → result_of mode b ≡ result_of mode a → has_result mode a ≡ true → has_result mode b ≡ true
has_too None a b same has = refl
has_too (Some mode) a b same has = ap is_some same ∙ has

abbrev EachKnown : Regs → Regs → List ℕ → Type 0
EachKnown a b [] = Unit {0}
EachKnown a b (r ∷ regs) = KnownToo a b r × EachKnown a b regs

kept_too : (a b : Regs) (regs : List ℕ) → EachKnown a b regs → KeptToo (func.values_of a regs) (func.values_of b regs)
kept_too a b [] all i number is = absurd (let no : ⊥ = cc in no)
kept_too a b (r ∷ regs) all zero number is =
    let here : reg_value a r W64 ≡ Some number = cc in ap Some (all.0 W64 number here)
kept_too a b (r ∷ regs) all (suc i) number is = kept_too a b regs all.1 i number is

module _ (c : Setting) where
  -- a step without a value
  pub never : (s s' : State) → step c.world c.f s ≡ (ends.Undefined, s') → EndsWell c s → ⊥
  never s s' is well = well.good ends.Undefined s' is refl refl

  pub go_both : (s s' t t1 t' : State) (e : StepEnd) (k : ℕ) → step c.world c.f s ≡ (e, s') → func.goes_on e ≡ true → Moves c k t t1 →
      step c.world (new_of c) t1 ≡ (e, t') → Related c s' t' → Simulates c s t
  go_both s s' t t1 t' e k is on led is' related =
      machine.goes_on e s' (added k 1) t' is on (then_one c.world (new_of c) k t t1 t' e led is' on)
      (one_weighs c.world (new_of c) k t t1 t' e led is') related

  pub end_both : (s s' t t1 t' : State) (e : StepEnd) (k : ℕ) → step c.world c.f s ≡ (e, s') → func.goes_on e ≡ false →
      Moves c k t t1 → step c.world (new_of c) t1 ≡ (e, t') → SameOutcome (func.ended c.f e s') (func.ended (new_of c) e t') →
      (is_past (new_of c) t1 ≡ true → Past c) → Simulates c s t
  end_both s s' t t1 t' e k is over led is' same past =
      machine.ends_there e s' k t1 (func.ended (new_of c) e t', is_past (new_of c) t1) is over led tt (turn_ends c.world (new_of c) t1 t' e is' over)
      (one_weighs c.world (new_of c) k t t1 t' e led is') (same, past)

  pub not_there : (t : State) → is_past (new_of c) t ≡ false → is_past (new_of c) t ≡ true → Past c
  not_there t before past = absurd (let no : true ≡ false = sym past ∙ before in let none : ⊥ = cc in none)

  -- ---- places that correspond

  pub onward_at : (xs ys : List Insn) (q other : ℕ) → AreReplaced c.f q xs ys → drop q c.f.insns ≡ xs →
      q ≤ length c.f.insns → drop other (new_of c).insns ≡ ys → other ≤ length (new_of c).insns → Onward c q other
  onward_at xs ys q other both there within there' within' s t at at' alike =
      outside xs ys q other both (subst (λ n. Stands c.f.insns n xs q) (sym at) (stands_at c.f.insns q xs there within))
      (subst (λ n. Stands (new_of c).insns n ys other) (sym at') (stands_at (new_of c).insns other ys there' within')) alike

  from_zero : (n : ℕ) → 0 + n ≡ n
  from_zero n = omega arith

  -- a label stands in both chains
  pub label_onward : (uid q : ℕ) → place_of uid c.f.insns ≡ Some q →
      (other : ℕ) × (place_of uid (new_of c).insns ≡ Some other) × Onward c q other
  label_onward uid q is =
      let at = twin uid c.f c.f.insns c.insns 0 0 0 q c.replaced is in
      let here : q ≡ at.by = at.place_is ∙ from_zero at.by in (
        at.by_other,
        at.other_is ∙ ap Some (from_zero at.by_other),
        onward_at (drop at.by c.f.insns) (drop at.by_other (new_of c).insns) q at.by_other
            (subst (λ p. AreReplaced c.f p (drop at.by c.f.insns) (drop at.by_other c.insns)) (sym at.place_is) at.both)
            (ap (λ n. drop n c.f.insns) here) (subst (λ n. n ≤ length c.f.insns) (sym here) at.within) refl at.within_other,
      )

  -- both states at other places
  moved : (q a b : ℕ) (s t : State) → Alike c q s t → Alike c q (record s { next = a }) (record t { next = b })
  moved q a b s t alike = record {
    live = alike.live;
    kept = alike.kept;
    memory_is = alike.memory_is;
    visible_is = alike.visible_is;
    calls_are = alike.calls_are;
    is_memory = alike.is_memory;
  }

  -- both fall through
  pub falls_both : (s t : State) (q other : ℕ) → step c.world c.f s ≡ (ends.Next, record s { next = q }) →
      step c.world (new_of c) t ≡ (ends.Next, record t { next = other }) → Alike c q s t → Onward c q other → Simulates c s t
  falls_both s t q other is is' alike onward =
      go_both s (record s { next = q }) t t (record t { next = other }) ends.Next 0 is refl (machine.stays t) is'
      (onward (record s { next = q }) (record t { next = other }) refl refl (moved q q other s t alike))

  -- both go to a label
  pub jumps_both : (s t t1 : State) (k uid : ℕ) (o : Option ℕ) → place_of uid c.f.insns ≡ o →
      step c.world c.f s ≡ after_goes s (place_of uid c.f.insns) → Moves c k t t1 →
      step c.world (new_of c) t1 ≡ after_goes t1 (place_of uid (new_of c).insns) →
      ((q : ℕ) → place_of uid c.f.insns ≡ Some q → Alike c q s t1) → EndsWell c s → Simulates c s t
  jumps_both s t t1 k uid None none is led is' alike well = absurd (never s s (is ∙ ap (after_goes s) none) well)
  jumps_both s t t1 k uid (Some q) at is led is' alike well =
      let label = label_onward uid q at in
      go_both s (record s { next = q }) t t1 (record t1 { next = label.0 }) ends.Jumped k (is ∙ ap (after_goes s) at) refl led
      (is' ∙ ap (after_goes t1) label.1)
      (label.2 (record s { next = q }) (record t1 { next = label.0 }) refl refl (moved q q label.0 s t1 (alike q at)))

  -- ---- calls

  -- what is the same at a call
  pub record AtCall (s t : State) (q : ℕ) : Type 0 where
    pub live : (reg : ℕ) → IsLive c.f reg (q + 1) → is_call_used reg ≡ false → KnownToo s.regs t.regs reg
    pub kept : (reg : ℕ) → has_reg kept_registers reg ≡ true → function_sets c.f reg ≡ false → is_call_used reg ≡ false →
        KnownToo s.regs t.regs reg
    pub memory_is : t.memory ≡ s.memory
    pub visible_is : t.visible ≡ s.visible
    pub calls_are : SameEvents s.calls t.calls
    pub is_memory : IsMemory s.memory

  behind_reply : (s t : State) (q other : ℕ) (w : Width) (event event' : CallEvent) (reply : Reply) → AtCall s t q →
      SameEvent event event' → IsMachineReply reply →
      Alike c (q + 1) (rtl.replied s q w event reply).1 (rtl.replied t other w event' reply).1
  behind_reply s t q other w event event' reply at same lawful = record {
    live = λ reg lives. replied_too s.regs t.regs w reply.value reg (at.live reg lives);
    kept = λ reg kept unset. replied_too s.regs t.regs w reply.value reg (at.kept reg kept unset);
    memory_is = ap (written reply.writes) at.memory_is;
    visible_is = at.visible_is;
    calls_are = events_more s.calls t.calls event event' at.calls_are same;
    is_memory = memory_written reply.writes s.memory lawful.bytes at.is_memory;
  }

  calls_by : (s t t1 : State) (k q other : ℕ) (event event' : CallEvent) (w : Width) (o : Option Reply) → next_reply c.world s ≡ o →
      step c.world c.f s ≡ after_reply s q w event o → Moves c k t t1 → step c.world (new_of c) t1 ≡ after_reply t1 other w event' o →
      SameEvent event event' → AtCall s t1 q → Onward c (q + 1) (other + 1) → is_past (new_of c) t1 ≡ false → Simulates c s t
  calls_by s t t1 k q other event event' w None none is led is' same at onward before =
      end_both s (rtl.asked s event).1 t t1 (rtl.asked t1 event').1 ends.Asked k is refl led is'
      (events_more s.calls t1.calls event event' at.calls_are same) (not_there t1 before)
  calls_by s t t1 k q other event event' w (Some reply) some is led is' same at onward before =
      go_both s (rtl.replied s q w event reply).1 t t1 (rtl.replied t1 other w event' reply).1 ends.Called k is refl led is'
      (onward (rtl.replied s q w event reply).1 (rtl.replied t1 other w event' reply).1 refl refl
      (behind_reply s t1 q other w event event' reply at same
      (of_all IsMachineReply c.world.replies (length s.calls) reply c.world_is.replies some)))

  -- both make a call
  pub calls_both : (s t t1 : State) (k q other : ℕ) (event event' : CallEvent) (w : Width) →
      step c.world c.f s ≡ after_reply s q w event (next_reply c.world s) → Moves c k t t1 →
      step c.world (new_of c) t1 ≡ after_reply t1 other w event' (next_reply c.world t1) → SameEvent event event' → AtCall s t1 q →
      Onward c (q + 1) (other + 1) → is_past (new_of c) t1 ≡ false → Simulates c s t
  calls_both s t t1 k q other event event' w is led is' same at onward before =
      calls_by s t t1 k q other event event' w (next_reply c.world s) refl is led
      (is' ∙ ap (λ n. after_reply t1 other w event' (slice_get c.world.replies n)) at.calls_are.long) same at onward before

  -- ---- returns

  kept_known : (s t : State) (q : ℕ) (reg : ℕ) (sets : Bool) → function_sets c.f reg ≡ sets → has_reg kept_registers reg ≡ true →
      Alike c q s t → ((reg : ℕ) → return_uses c.f reg ≡ true → KnownToo s.regs t.regs reg) → KnownToo s.regs t.regs reg
  kept_known s t q reg true sets kept alike used = used reg (or_later (is_some c.f.result && (reg == 10)) _
      (ap (λ b. b && function_sets c.f reg) kept ∙ sets))
  kept_known s t q reg false sets kept alike used = alike.kept reg kept sets

  all_kept : (s t : State) (q : ℕ) → Alike c q s t → ((reg : ℕ) → return_uses c.f reg ≡ true → KnownToo s.regs t.regs reg) →
      EachKnown s.regs t.regs func.kept_registers
  all_kept s t q alike used =
      let one : (reg : ℕ) → has_reg kept_registers reg ≡ true → KnownToo s.regs t.regs reg =
      λ reg kept. kept_known s t q reg (function_sets c.f reg) refl kept alike used in
      one 2 refl also one 1 refl also one 8 refl also one 9 refl also one 18 refl also one 19 refl also one 20 refl also
      one 21 refl also one 22 refl also one 23 refl also one 24 refl also one 25 refl also one 26 refl also one 27 refl also tt

  returns_by : (s t : State) (q : ℕ) (has : Bool) → has_result c.f.result s.regs ≡ has → Alike c q s t →
      ((reg : ℕ) → return_uses c.f reg ≡ true → KnownToo s.regs t.regs reg) → step c.world c.f s ≡ after_return c.f.result s →
      step c.world (new_of c) t ≡ after_return c.f.result t → EndsWell c s →
      (is_past (new_of c) t ≡ true → goes_on (step c.world c.f s).0 ≡ false → Past c) → Simulates c s t
  returns_by s t q false none alike used is is' well past =
      absurd (never s s (is ∙ ap (λ b. if b then (ends.Returned, s) else (ends.Undefined, s)) none) well)
  returns_by s t q true has alike used is is' well past =
      let result = same_result c.f.result s.regs t.regs (λ some. used 10 (result_used c.f some)) has in
      let has' = has_too c.f.result s.regs t.regs result has in
      end_both s s t t t ends.Returned 0 (is ∙ ap (λ b. if b then (ends.Returned, s) else (ends.Undefined, s)) has) refl
      (machine.stays t) (is' ∙ ap (λ b. if b then (ends.Returned, t) else (ends.Undefined, t)) has') (
        result,
        ap (λ ranges. visible ranges t.memory) alike.visible_is ∙ ap (visible s.visible) alike.memory_is,
        alike.calls_are,
        kept_too s.regs t.regs func.kept_registers (all_kept s t q alike used),
      ) (λ ends_there. past ends_there (ap (λ (x : Stepped). goes_on x.0) (is ∙
      ap (λ b. if b then (ends.Returned, s) else (ends.Undefined, s)) has)))

  -- both return
  pub returns_both : (s t : State) (q : ℕ) → Alike c q s t →
      ((reg : ℕ) → return_uses c.f reg ≡ true → KnownToo s.regs t.regs reg) → step c.world c.f s ≡ after_return c.f.result s →
      step c.world (new_of c) t ≡ after_return c.f.result t → EndsWell c s →
      (is_past (new_of c) t ≡ true → goes_on (step c.world c.f s).0 ≡ false → Past c) → Simulates c s t
  returns_both s t q alike used is is' well past = returns_by s t q (has_result c.f.result s.regs) refl alike used is is' well past
