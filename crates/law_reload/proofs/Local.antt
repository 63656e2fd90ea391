-- What the second function does beside one step of the first at an instruction that goes on, and
-- behind the moves before a jump or a call.
use Rattle.std.proofs.Common.{◌≡◌, ℕ, ◌+◌, if◌then◌else◌, Bool, true, false, List, ◌∷◌, ◌++◌, Option, Some, None, refl, sym, ap, ◌∙◌}
use Rattle.std.specs.Prelude.{slice_get}
use Rattle.rtx_tree.specs.declared.function.Function.{Function}
use Rattle.rtx_tree.specs.declared.function.Insn.{Insn}
use Rattle.rtx_tree.specs.declared.function.Kind.{Kind}
use Rattle.rtx_tree.specs.declared.function.Kind.TheVariants as kind
use Rattle.rtl_step.specs.Effect.{effects_of, regs_after, memory_after}
use Rattle.rtl_step.specs.Step as rtl
use Rattle.rtl_step.specs.Step.{step, act, after_effects, after_return, has_result, is_mark}
use Rattle.rtl_step.specs.declared.effect.Effect.{Effect}
use Rattle.rtl_step.specs.declared.step.State.{State}
use Rattle.rtl_step.specs.declared.step.StepEnd.TheVariants as ends
use Rattle.law_function_kept.specs.Ends.{is_past}
use Rattle.same_behaviour.specs.Lawful.{IsLawfulWorld, IsMemory}
use Rattle.law_window_lines.proofs.Leads.{leads_on}
use Rattle.law_reload_moves.proofs.law_window_replaced.Memory.{memory_effects}
use Rattle.law_reload_moves.proofs.law_window_replaced.Stands.{Stands, stands_behind, there_is, step_is, not_past}
use Rattle.law_homes.proofs.Knowing.{stands_more}
use Rattle.law_homes.proofs.Onward.{ReturnsSame}
use Rattle.law_homes.proofs.Plain.{plain_keeps}
use Rattle.law_homes.proofs.Setting.{Setting, StandsIn}
use Rattle.law_reload.specs.Steps.{Kept, Leads, StepsBeside}
use Rattle.law_reload.specs.Steps as parts
use Rattle.law_reload.proofs.Law.{pair_of}
use Rattle.law_reload.proofs.Kept.{kept_too}
use Rattle.law_reload.proofs.Going.{go_next}
use Rattle.law_reload.proofs.Windows.{Comes, DoesPlain, InPlace, At}

-- a function, and another that has in the place of each of its instructions what does the same
pub record Reloaded : Type 0 where
  pub c : Setting
  pub g : Function
  pub whole : InPlace c g 0 c.f.insns g.insns
  pub result_is : g.result ≡ c.f.result
  pub world : IsLawfulWorld c.start c.world

-- two states that stand beside each other at an instruction, and the rests of both chains behind it
pub record Site (r : Reloaded) (s u : State) : Type 0 where
  pub place : ℕ
  pub i : Insn
  pub insns : List Insn
  pub rest : List Insn
  pub here : Stands r.c.f.insns s.next (i ∷ insns) place
  pub stands : StandsIn r.c place s u
  pub memory : IsMemory u.memory
  pub more : InPlace r.c r.g (place + 1) insns rest

module _ (r : Reloaded) where
  abbrev pub Steps : State → State → Type 0
  Steps s u = StepsBeside (pair_of r.c r.g) (At r.c r.g) s u

  -- what stays where both stand
  pub kept_at : (place : ℕ) (s u : State) → StandsIn r.c place s u → Kept (pair_of r.c r.g) u
  kept_at place s u stands = kept_too r.c.layout r.c.f.locals r.c.start u r.c.lawful.words
      stands.kept

  -- both return, where the result is known
  pub return_by : (s u u' : State) (k place : ℕ) (has : Bool) →
      has_result r.c.f.result s.regs ≡ has →
      step r.c.world r.c.f s ≡ after_return r.c.f.result s → Leads (pair_of r.c r.g) k u u' →
      StandsIn r.c place s u' →
      step r.c.world r.g u' ≡ after_return r.g.result u' →
      (has_result r.c.f.result s.regs ≡ true → ReturnsSame r.c s u') →
      (is_past r.g u' ≡ true → is_past r.c.f s ≡ true) → Steps s u
  return_by s u u' k place false none is leads stands is' same past =
      parts.never s (is ∙ ap (λ b. if b then (ends.Returned, s) else (ends.Undefined, s)) none)
  return_by s u u' k place true has is leads stands is' same past =
      let both = same has in
      let has' : has_result r.g.result u'.regs ≡ true = ap (λ result. has_result result u'.regs)
      r.result_is ∙ both.has in
      parts.end ends.Returned s u' u' k (is ∙ ap (λ b. if b then (ends.Returned, s) else
      (ends.Undefined, s)) has) refl leads
      (kept_at place s u' stands) (is' ∙ ap (λ b. if b then (ends.Returned, u') else
      (ends.Undefined, u')) has') (
        ap (λ result. rtl.result_of result u'.regs) r.result_is ∙ both.result_is,
        both.memory_is,
        stands.calls,
      ) past

  module _ (s u : State) (x : Site r s u) where
    abbrev pub at : slice_get r.c.f.insns x.place ≡ Some x.i
    at = there_is r.c.f.insns s.next x.i x.insns x.place x.here

    pub step_one : (k : Kind) → is_mark k ≡ false → x.i.kind ≡ k →
        step r.c.world r.c.f s ≡ act k r.c.world r.c.f x.i x.place s
    step_one k none is = step_is r.c.world r.c.f s x.i x.insns x.place k x.here none is

    -- behind it, where the rest of the other chain stands
    pub behind : (next q : ℕ) → Stands r.g.insns next x.rest q → At r.c r.g (x.place + 1) next
    behind next q other = record {
      xs = x.insns;
      ys = x.rest;
      place = q;
      are = x.more;
      stands = stands_behind r.c.f.insns s.next x.i x.insns x.place x.here;
      other = other;
    }

    -- ---- one that goes on

    plain_by : (window : List Insn) (q : ℕ) (o : Option (List Effect)) →
        effects_of r.c.world.symbols s.regs s.memory x.i.pattern ≡ o →
        (plain : x.i.kind ≡ kind.Plain) → DoesPlain r.c r.g x.place x.i at plain window →
        Stands r.g.insns u.next (window ++ x.rest) q → Steps s u
    plain_by window q None are plain does other = parts.never s
        (step_one kind.Plain refl plain ∙ ap (after_effects s x.place) are)
    plain_by window q (Some es) are plain does other =
        let d = plain_keeps r.c x.place x.i at plain s u x.stands es are in
        let m = does s u x.stands x.memory es are x.rest q other in
        let s' : State = record s {
          next = x.place + 1;
          regs = regs_after es s.regs;
          memory =
              memory_after es s.memory;
        } in
        let u' : State = record u {
          next = m.next_place;
          regs = m.regs;
          memory =
              memory_after d.these u.memory;
        } in
        let u'' : State = record u {
          next = m.next_place;
          regs = regs_after d.these u.regs;
          memory =
              memory_after d.these u.memory;
        } in
        let on = leads_on r.c.f.insns x.place x.i at
        (λ jumps. let no : kind.Plain ≡ kind.Jump = sym plain ∙ jumps in let never : ⊥ = cc in
        never) in
        let stands : StandsIn r.c (x.place + 1) s' u' =
        stands_more r.c (x.place + 1) s' u'' u' (d.stands_behind (x.place + 1) (x.place + 1)
        m.next_place on)
        (record { known = m.knows; memory_is = refl; ranges_are = refl; calls_are = refl }) in
        go_next (pair_of r.c r.g) (At r.c r.g) s u s' u' m.count
        (step_one kind.Plain refl plain ∙ ap (after_effects s x.place) are) m.leads
        (record {
          stands = stands;
          at = behind m.next_place m.place m.stands;
          memory = memory_effects d.these u.memory x.memory;
        })

    pub plain_step : (window : List Insn) (q : ℕ) (plain : x.i.kind ≡ kind.Plain) →
        DoesPlain r.c r.g x.place x.i at plain window →
        Stands r.g.insns u.next (window ++ x.rest) q → Steps s u
    plain_step window q plain does other = plain_by window q
        (effects_of r.c.world.symbols s.regs s.memory x.i.pattern) refl plain does other

    -- one that has no value
    pub never_step : is_mark x.i.kind ≡ false → ((s : State) →
        act x.i.kind r.c.world r.c.f x.i x.place s ≡ (ends.Undefined, s)) → Steps s u
    never_step none no_value = parts.never s (step_one x.i.kind none refl ∙ no_value s)

    -- ---- behind some moves

    module _ (j : Insn) (m : Comes r.c r.g u u.regs u.memory (j ∷ x.rest)) where
      abbrev pub moved : State
      moved = record u { next = m.next_place; regs = m.regs }

      pub moved_stands : StandsIn r.c x.place s (record u { next = m.next_place; regs = m.regs })
      moved_stands = stands_more r.c x.place s u moved x.stands
          (record { known = m.knows; memory_is = refl; ranges_are = refl; calls_are = refl })

      pub step_other : (k : Kind) → is_mark k ≡ false → j.kind ≡ k →
          step r.c.world r.g (record u { next = m.next_place; regs = m.regs }) ≡
          act k r.c.world r.g j m.place (record u { next = m.next_place; regs = m.regs })
      step_other k none is = step_is r.c.world r.g moved j x.rest m.place k m.stands none is

      -- the next of the chain stands behind it
      pub behind_other : At r.c r.g (x.place + 1) (m.place + 1)
      behind_other = behind (m.place + 1) (m.place + 1) (stands_behind r.g.insns m.next_place j
          x.rest m.place m.stands)

      -- no run ends past the last instruction there
      pub inside : (k : Kind) → is_mark k ≡ false → j.kind ≡ k →
          is_past r.g (record u { next = m.next_place; regs = m.regs }) ≡ true →
          is_past r.c.f s ≡ true
      inside k none is past = absurd (let both : true ≡ false = sym past ∙
          not_past r.g moved j x.rest m.place k m.stands none is in
          let no : ⊥ = cc in no)
