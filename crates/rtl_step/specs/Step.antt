-- One step of a function: GCC Internals, "Side Effect Expressions", "Insns", "Calls" and "Jump
-- Patterns".
use Rattle.std.specs.Prelude.{ℕ, ◌+◌, Bool, true, false, if◌then◌else◌, List, [], ◌∷◌, ◌++◌, drop, length, Option, Some, None, option_and_then, is_some, slice_get}
use Rattle.bits64.specs.declared.Width.{Width}
use Rattle.rtx_tree.specs.declared.code.Mode.{Mode}
use Rattle.rtx_tree.specs.declared.function.Kind.{Kind}
use Rattle.rtx_tree.specs.declared.function.Kind.TheVariants.{Plain, Jump, Call, Label, Barrier}
use Rattle.rtx_tree.specs.declared.function.Insn.{Insn}
use Rattle.rtx_tree.specs.declared.function.Function.{Function}
use Rattle.rtx_tree.specs.declared.machine.Reply.{Reply}
use Rattle.rtx_tree.specs.declared.machine.SymbolAt.{SymbolAt}
use Rattle.rtx_tree.specs.declared.machine.World.{World}
use Rattle.rtx_tree.specs.Patterns.{place_of}
use Rattle.run_memory.specs.RunMemory.{written}
use Rattle.rtl_step.specs.Regs.{Regs, reg_value}
use Rattle.rtl_step.specs.Value.{width_of}
use Rattle.rtl_step.specs.Effect.{effects_of, regs_after, memory_after}
use Rattle.rtl_step.specs.Jump.{jump_of}
use Rattle.rtl_step.specs.Call.{event_of, result_width, result_register, regs_replied}
use Rattle.rtl_step.specs.declared.effect.Effect.{Effect}
use Rattle.rtl_step.specs.declared.jump.Way.{Way}
use Rattle.rtl_step.specs.declared.jump.Way.TheVariants.{Falls, Goes, Leaves}
use Rattle.rtl_step.specs.declared.call.CallEvent.{CallEvent}
use Rattle.rtl_step.specs.declared.step.State.{State}
use Rattle.rtl_step.specs.declared.step.StepEnd.{StepEnd}
use Rattle.rtl_step.specs.declared.step.StepEnd.TheVariants.{Next, Jumped, Called, Returned, Asked, Undefined}

-- ---- the step

-- how a step ends, and in which state; a step without a value leaves the state
abbrev pub Stepped : Type 0
Stepped = StepEnd × State

abbrev pub after_effects : State → ℕ → Option (List Effect) → Stepped
after_effects s place None = (Undefined, s)
after_effects s place (Some effects) = (Next, record s { next = place + 1; regs = regs_after effects s.regs; memory = memory_after effects s.memory })

abbrev pub after_goes : State → Option ℕ → Stepped
after_goes s None = (Undefined, s)
after_goes s (Some place) = (Jumped, record s { next = place })

-- a0 in the mode of the result, where there is one
abbrev pub result_of : Option Mode → Regs → Option ℕ
result_of mode regs =
    option_and_then (reg_value regs result_register) (option_and_then width_of mode)

-- whether the result is known, where there is one
abbrev pub has_result : Option Mode → Regs → Bool
has_result None regs = true
has_result (Some mode) regs = is_some (result_of (Some mode) regs)

abbrev pub after_return : Option Mode → State → Stepped
after_return mode s = if has_result mode s.regs then (Returned, s) else (Undefined, s)

abbrev pub after_jump : Function → State → ℕ → Option Way → Stepped
after_jump f s place None = (Undefined, s)
after_jump f s place (Some Falls) = (Next, record s { next = place + 1 })
after_jump f s place (Some (Goes uid)) = after_goes s (place_of uid f.insns)
after_jump f s place (Some Leaves) = after_return f.result s

-- the reply to the next call, if there is one left
abbrev pub next_reply : World → State → Option Reply
next_reply world s = slice_get world.replies (length s.calls)

-- a call without a reply stands last
abbrev pub asked : State → CallEvent → Stepped
asked s event = (Asked, record s { calls = s.calls ++ event ∷ [] })

abbrev pub replied : State → ℕ → Width → CallEvent → Reply → Stepped
replied s place w event reply =
    (Called, record s { next = place + 1; regs = regs_replied s.regs w reply.value; memory = written reply.writes s.memory; calls = s.calls ++ event ∷ [] })

abbrev pub after_reply : State → ℕ → Width → CallEvent → Option Reply → Stepped
after_reply s place w event None = asked s event
after_reply s place w event (Some reply) = replied s place w event reply

abbrev pub after_event : World → State → ℕ → Option Width → Option CallEvent → Stepped
after_event world s place None event = (Undefined, s)
after_event world s place (Some w) None = (Undefined, s)
after_event world s place (Some w) (Some event) = after_reply s place w event (next_reply world s)

-- what the function that an instruction calls sees in a state, and the width in which its result is
-- known
abbrev pub insn_event : List SymbolAt → State → Insn → Option CallEvent
insn_event symbols s i = event_of symbols s.regs s.memory s.visible i.pattern i.uses

abbrev pub width_after : Insn → Option Width
width_after i = result_width i.pattern

-- an instruction at a place of the chain
abbrev pub act : Kind → World → Function → Insn → ℕ → State → Stepped
act Plain world f i place s =
    after_effects s place (effects_of world.symbols s.regs s.memory i.pattern)
act Jump world f i place s = after_jump f s place (jump_of world.symbols s.regs s.memory i.pattern)
act Call world f i place s =
    after_event world s place (width_after i) (insn_event world.symbols s i)
act _ world f i place s = (Undefined, s)

-- the end of the chain returns
abbrev pub act_at : Option Insn → World → Function → ℕ → State → Stepped
act_at None world f place s = after_return f.result s
act_at (Some i) world f place s = act i.kind world f i place s

-- labels and barriers are passed over ("Insns": `code_label`, `barrier`)
abbrev pub is_mark : Kind → Bool
is_mark Label = true
is_mark Barrier = true
is_mark _ = false

-- the place of the first instruction of the rest of a chain, which begins at a place
abbrev pub passed : List Insn → ℕ → ℕ
passed [] place = place
passed (i ∷ rest) place = if is_mark i.kind then passed rest (place + 1) else place

abbrev pub place_from : List Insn → ℕ → ℕ
place_from insns next = passed (drop next insns) next

-- one step of a function
abbrev pub step : World → Function → State → Stepped
step world f s =
    let place = place_from f.insns s.next in act_at (slice_get f.insns place) world f place s
