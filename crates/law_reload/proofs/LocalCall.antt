-- What the second function does beside a call of the first.
use Rattle.std.proofs.Common.{◌≡◌, ℕ, zero, suc, ◌+◌, List, [], ◌∷◌, ◌++◌, length, Option, Some, None, refl, sym, ap, subst, ◌∙◌}
use Rattle.std.specs.List.{All}
use Rattle.std.specs.Prelude.{slice_get}
use Rattle.std.proofs.lemmas.List.Elements.{All-head, All-tail}
use Rattle.bits64.specs.declared.Width.{Width}
use Rattle.rtx_tree.specs.declared.function.Insn.{Insn}
use Rattle.rtx_tree.specs.declared.function.Kind.TheVariants as kind
use Rattle.rtx_tree.specs.declared.machine.Reply.{Reply}
use Rattle.rtl_step.specs.Call.{event_of, result_width}
use Rattle.rtl_step.specs.Step as rtl
use Rattle.rtl_step.specs.Step.{step, after_event, after_reply, next_reply}
use Rattle.rtl_step.specs.declared.call.CallEvent.{CallEvent}
use Rattle.rtl_step.specs.declared.step.State.{State}
use Rattle.rtl_step.specs.declared.step.StepEnd.TheVariants as ends
use Rattle.same_behaviour.specs.Lawful.{IsLawfulReply}
use Rattle.law_window_lines.proofs.Memories.{memory_written}
use Rattle.law_window_lines.proofs.Leads.{leads_on}
use Rattle.law_homes.proofs.Calls.{reply_stands}
use Rattle.law_homes.proofs.Setting.{StandsIn}
use Rattle.law_reload.specs.Steps as parts
use Rattle.law_reload.proofs.Law.{pair_of}
use Rattle.law_reload.proofs.Going.{go_both}
use Rattle.law_reload.proofs.Windows.{Calls, At}
use Rattle.law_reload.proofs.Local.{Reloaded, Site, Steps, kept_at, at, step_one, moved_stands, step_other, behind_other, inside}

-- what all are, one is
one_of : {X : Type 0} (P : X → Type 0) (xs : List X) (n : ℕ) (x : X) → All P xs →
    slice_get xs n ≡ Some x → P x
one_of P [] n x all is = absurd (let no : ⊥ = cc in no)
one_of P (y ∷ ys) zero x all is = let same : y ≡ x = cc in subst P same (All-head P y ys all)
one_of P (y ∷ ys) (suc n) x all is = one_of P ys n x (All-tail P y ys all) is

module _ (r : Reloaded) (s u : State) (x : Site r s u) (calls : x.i.kind ≡ kind.Call) (j : Insn)
    (calls' : j.kind ≡ kind.Call) where
  abbrev Tells : CallEvent → Type 0
  Tells event = event_of r.c.world.symbols s.regs s.memory s.visible x.i.pattern x.i.uses ≡ Some
      event

  -- the call is made, in both
  module _ (w : Width) (is_w : result_width x.i.pattern ≡ Some w) (event : CallEvent)
      (tells : event_of r.c.world.symbols s.regs s.memory s.visible x.i.pattern x.i.uses ≡ Some
      event) (m : Calls r.c r.g u event x.i j x.rest) where
    abbrev moved : State
    moved = record u { next = m.comes.next_place; regs = m.comes.regs }

    stands : StandsIn r.c x.place s (record u { next = m.comes.next_place; regs = m.comes.regs })
    stands = moved_stands r s u x j m.comes

    first : step r.c.world r.c.f s ≡ after_reply s x.place w event (next_reply r.c.world s)
    first = step_one r s u x kind.Call refl calls
        ∙ ap (λ o. after_event r.c.world s x.place o (rtl.insn_event r.c.world.symbols s x.i)) is_w
        ∙ ap (after_event r.c.world s x.place (Some w)) tells

    second : step r.c.world r.g (record u { next = m.comes.next_place; regs = m.comes.regs }) ≡
        after_reply (record u { next = m.comes.next_place; regs = m.comes.regs }) m.comes.place w
        event (next_reply r.c.world s)
    second = step_other r s u x j m.comes kind.Call refl calls'
        ∙ ap (λ o. after_event r.c.world moved m.comes.place o
        (rtl.insn_event r.c.world.symbols moved j)) (m.width ∙ is_w)
        ∙ ap (after_event r.c.world moved m.comes.place (Some w)) m.tells
        ∙ ap (λ (calls : List CallEvent). after_reply moved m.comes.place w event
        (slice_get r.c.world.replies (length calls))) x.stands.calls

    reply_by : (o : Option Reply) → next_reply r.c.world s ≡ o → Steps r s u
    reply_by None none =
        parts.end ends.Asked (rtl.asked s event).1 moved (rtl.asked moved event).1 m.comes.count
        (first ∙ ap (after_reply s x.place w event) none) refl m.comes.leads
        (kept_at r x.place s moved stands)
        (second ∙ ap (after_reply moved m.comes.place w event) none)
        (ap (λ calls. calls ++ event ∷ []) x.stands.calls)
        (inside r s u x j m.comes kind.Call refl calls')
    reply_by (Some reply) is =
        let lawful : IsLawfulReply r.c.start reply = one_of (IsLawfulReply r.c.start)
        r.c.world.replies (length s.calls) reply r.world.replies is in
        let on = leads_on r.c.f.insns x.place x.i (at r s u x)
        (λ jumps. let no : kind.Call ≡ kind.Jump = sym calls ∙ jumps in let never : ⊥ = cc in never)
        in
        go_both (pair_of r.c r.g) (At r.c r.g) s u (rtl.replied s x.place w event reply).1 moved
        (rtl.replied moved m.comes.place w event reply).1
        ends.Called m.comes.count (first ∙ ap (after_reply s x.place w event) is) refl m.comes.leads
        (kept_at r x.place s moved stands)
        (second ∙ ap (after_reply moved m.comes.place w event) is) (record {
          stands = reply_stands r.c x.place x.i (at r s u x) calls s moved stands event tells w
              reply lawful (x.place + 1) (x.place + 1) (m.comes.place + 1) on;
          at = behind_other r s u x j m.comes;
          memory = memory_written reply.writes u.memory lawful.bytes x.memory;
        })

  call_by : (width : Option Width) (o : Option CallEvent) → result_width x.i.pattern ≡ width →
      event_of r.c.world.symbols s.regs s.memory s.visible x.i.pattern x.i.uses ≡ o →
      ((event : CallEvent) → Tells event → Calls r.c r.g u event x.i j x.rest) → Steps r s u
  call_by None o is_w tells others = parts.never s (step_one r s u x kind.Call refl calls
      ∙ ap (λ o. after_event r.c.world s x.place o (rtl.insn_event r.c.world.symbols s x.i)) is_w)
  call_by (Some w) None is_w tells others = parts.never s (step_one r s u x kind.Call refl calls
      ∙ ap (λ o. after_event r.c.world s x.place o (rtl.insn_event r.c.world.symbols s x.i)) is_w
      ∙ ap (after_event r.c.world s x.place (Some w)) tells)
  call_by (Some w) (Some event) is_w tells others = reply_by w is_w event tells (others event tells)
      (next_reply r.c.world s) refl

  pub call_step : ((event : CallEvent) → event_of r.c.world.symbols s.regs s.memory s.visible
      x.i.pattern x.i.uses ≡ Some event →
      Calls r.c r.g u event x.i j x.rest) → Steps r s u
  call_step others = call_by (result_width x.i.pattern) (event_of r.c.world.symbols s.regs s.memory
      s.visible x.i.pattern x.i.uses) refl refl others
