-- What called functions see changes no step but for what it tells of them: states that are alike but
-- for what is visible, and for calls of which there are as many, step alike.
use Rattle.std.proofs.Common.{◌≡◌, ℕ, ◌+◌, List, [], ◌∷◌, ◌++◌, length, Option, Some, None, Bool, true, false, if◌then◌else◌, refl, sym, ap, subst, ◌∙◌}
use Rattle.std.specs.Prelude.{slice_get}
use Rattle.std.proofs.lemmas.List.{length-append}
use Rattle.bits64.specs.declared.Width.{Width}
use Rattle.rtx_tree.specs.declared.function.Kind.{Kind}
use Rattle.rtx_tree.specs.declared.function.Kind.TheVariants.{Plain, Jump, Call, Label, Barrier}
use Rattle.rtx_tree.specs.declared.function.Insn.{Insn}
use Rattle.rtx_tree.specs.declared.function.Function.{Function}
use Rattle.rtx_tree.specs.declared.machine.Reply.{Reply}
use Rattle.rtx_tree.specs.declared.machine.World.{World}
use Rattle.rtx_tree.specs.declared.machine.RangeAt.{RangeAt}
use Rattle.rtx_tree.specs.Patterns.{place_of}
use Rattle.run_memory.specs.RunMemory.{visible}
use Rattle.rtl_step.specs.Value.{of_two}
use Rattle.rtl_step.specs.Effect.{effects_of}
use Rattle.rtl_step.specs.Jump.{jump_of}
use Rattle.rtl_step.specs.Call.{target_value, args_of}
use Rattle.rtl_step.specs.Step.{Stepped, step, act, act_at, after_effects, after_goes, after_jump, after_reply, after_event, has_result, place_from, width_after}
use Rattle.rtl_step.specs.declared.effect.Effect.{Effect}
use Rattle.rtl_step.specs.declared.jump.Way.{Way}
use Rattle.rtl_step.specs.declared.jump.Way.TheVariants.{Falls, Goes, Leaves}
use Rattle.rtl_step.specs.declared.call.ArgValue.{ArgValue}
use Rattle.rtl_step.specs.declared.call.CallEvent.{CallEvent}
use Rattle.rtl_step.specs.declared.step.State.{State}
use Rattle.rtl_step.specs.declared.step.StepEnd.TheVariants.{Returned, Undefined}

-- a state with other ranges and calls
abbrev pub seen : State → List RangeAt → List CallEvent → State
seen s ranges calls = record s { visible = ranges; calls = calls }

-- one step ends as another, in a state that is alike, with as many calls
pub record StepsAlike (ranges : List RangeAt) (a b : Stepped) : Type 0 where
  pub end : b.0 ≡ a.0
  pub calls : List CallEvent
  pub many : length calls ≡ length a.1.calls
  pub state : b.1 ≡ seen a.1 ranges calls

module _ (world : World) (f : Function) (s : State) (ranges : List RangeAt) (calls : List CallEvent) (many : length calls ≡ length s.calls) where
  -- the state with what is seen
  abbrev t : State
  t = seen s ranges calls

  -- a step that leaves the calls
  alike_if : (b : Bool) → StepsAlike ranges (if b then (Returned, s) else (Undefined, s)) (if b then (Returned, t) else (Undefined, t))
  alike_if true = record { end = refl; calls = calls; many = many; state = refl }
  alike_if false = record { end = refl; calls = calls; many = many; state = refl }

  effects_alike : (place : ℕ) (effects : Option (List Effect)) → StepsAlike ranges (after_effects s place effects) (after_effects t place effects)
  effects_alike place None = record { end = refl; calls = calls; many = many; state = refl }
  effects_alike place (Some effects) = record { end = refl; calls = calls; many = many; state = refl }

  goes_alike : (label : Option ℕ) → StepsAlike ranges (after_goes s label) (after_goes t label)
  goes_alike None = record { end = refl; calls = calls; many = many; state = refl }
  goes_alike (Some place) = record { end = refl; calls = calls; many = many; state = refl }

  jump_alike : (place : ℕ) (way : Option Way) → StepsAlike ranges (after_jump f s place way) (after_jump f t place way)
  jump_alike place None = record { end = refl; calls = calls; many = many; state = refl }
  jump_alike place (Some Falls) = record { end = refl; calls = calls; many = many; state = refl }
  jump_alike place (Some (Goes uid)) = goes_alike (place_of uid f.insns)
  jump_alike place (Some Leaves) = alike_if (has_result f.result s.regs)

  -- one call more on both sides
  one_more : (a b : CallEvent) → length (calls ++ b ∷ []) ≡ length (s.calls ++ a ∷ [])
  one_more a b = length-append calls (b ∷ []) ∙ (ap (λ n. n + 1) many ∙ sym (length-append s.calls (a ∷ [])))

  reply_alike : (place : ℕ) (w : Width) (a b : CallEvent) (reply : Option Reply) → StepsAlike ranges (after_reply s place w a reply) (after_reply t place w b reply)
  reply_alike place w a b None = record { end = refl; calls = calls ++ b ∷ []; many = one_more a b; state = refl }
  reply_alike place w a b (Some reply) = record { end = refl; calls = calls ++ b ∷ []; many = one_more a b; state = refl }

  -- the next reply is found by the number of calls
  next_alike : (place : ℕ) (w : Width) (a b : CallEvent) → StepsAlike ranges (after_reply s place w a (slice_get world.replies (length s.calls))) (after_reply t place w b (slice_get world.replies (length calls)))
  next_alike place w a b = subst (λ n. StepsAlike ranges (after_reply s place w a (slice_get world.replies (length s.calls))) (after_reply t place w b (slice_get world.replies n))) (sym many)
      (reply_alike place w a b (slice_get world.replies (length s.calls)))

  -- what a called function sees has the same target and arguments on both sides
  abbrev event : List RangeAt → ℕ → List ArgValue → Option CallEvent
  event rs target args = Some (record { target = target; args = args; memory = visible rs s.memory })

  call_alike : (place : ℕ) (w : Option Width) (target : Option ℕ) (args : Option (List ArgValue)) → StepsAlike ranges (after_event world s place w (of_two (event s.visible) target args)) (after_event world t place w (of_two (event ranges) target args))
  call_alike place None None None = record { end = refl; calls = calls; many = many; state = refl }
  call_alike place None None (Some args) = record { end = refl; calls = calls; many = many; state = refl }
  call_alike place None (Some target) None = record { end = refl; calls = calls; many = many; state = refl }
  call_alike place None (Some target) (Some args) = record { end = refl; calls = calls; many = many; state = refl }
  call_alike place (Some w) None None = record { end = refl; calls = calls; many = many; state = refl }
  call_alike place (Some w) None (Some args) = record { end = refl; calls = calls; many = many; state = refl }
  call_alike place (Some w) (Some target) None = record { end = refl; calls = calls; many = many; state = refl }
  call_alike place (Some w) (Some target) (Some args) =
      next_alike place w (record { target = target; args = args; memory = visible s.visible s.memory }) (record { target = target; args = args; memory = visible ranges s.memory })

  act_alike : (kind : Kind) (i : Insn) (place : ℕ) → StepsAlike ranges (act kind world f i place s) (act kind world f i place t)
  act_alike Plain i place = effects_alike place (effects_of world.symbols s.regs s.memory i.pattern)
  act_alike Jump i place = jump_alike place (jump_of world.symbols s.regs s.memory i.pattern)
  act_alike Call i place = call_alike place (width_after i) (target_value world.symbols s.regs s.memory i.pattern) (args_of s.regs i.uses)
  act_alike Label i place = record { end = refl; calls = calls; many = many; state = refl }
  act_alike Barrier i place = record { end = refl; calls = calls; many = many; state = refl }

  at_alike : (o : Option Insn) (place : ℕ) → StepsAlike ranges (act_at o world f place s) (act_at o world f place t)
  at_alike None place = alike_if (has_result f.result s.regs)
  at_alike (Some i) place = act_alike i.kind i place

  pub step_alike : StepsAlike ranges (step world f s) (step world f t)
  step_alike = at_alike (slice_get f.insns (place_from f.insns s.next)) (place_from f.insns s.next)
