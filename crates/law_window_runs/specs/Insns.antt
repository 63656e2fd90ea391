-- What a window of instructions does to registers and memory, and how it ends: GCC Internals,
-- "Insns", "Side Effect Expressions", "Jump Patterns" and "Calls". It has no meaning where one of
-- its instructions has none.
use Rattle.std.specs.Prelude.{ℕ, List, [], ◌∷◌, Option, Some, None, option_map, option_and_then}
use Rattle.bits64.specs.declared.Width.{Width}
use Rattle.rtx_tree.specs.declared.function.Insn.{Insn}
use Rattle.rtx_tree.specs.declared.function.Kind.{Kind}
use Rattle.rtx_tree.specs.declared.function.Kind.TheVariants.{Plain, Jump, Call, Label, Barrier}
use Rattle.rtx_tree.specs.declared.machine.RangeAt.{RangeAt}
use Rattle.rtx_tree.specs.declared.machine.SymbolAt.{SymbolAt}
use Rattle.rtx_tree.specs.declared.memories.MemByte.{MemByte}
use Rattle.same_behaviour.specs.rtl_step.Regs.{Regs}
use Rattle.same_behaviour.specs.rtl_step.Value.{of_two}
use Rattle.same_behaviour.specs.rtl_step.Effect.{effects_of, regs_after, memory_after}
use Rattle.same_behaviour.specs.rtl_step.Jump.{jump_of}
use Rattle.same_behaviour.specs.rtl_step.Call.{event_of, result_width}
use Rattle.same_behaviour.specs.rtl_step.declared.call.CallEvent.{CallEvent}
use Rattle.same_behaviour.specs.rtl_step.declared.effect.Effect.{Effect}
use Rattle.same_behaviour.specs.rtl_step.declared.jump.Way.{Way}
use Rattle.same_behaviour.specs.rtl_step.declared.jump.Way.TheVariants as way

-- a window of instructions falls through to what follows, goes to the label with a uid, calls a
-- function, whose result is then known in a width, or returns
pub data InsnsEnd : Type 0 where
  Falls : InsnsEnd
  Goes : ℕ → InsnsEnd
  Calls : CallEvent → Width → InsnsEnd
  Returns : InsnsEnd

-- what there is where it ends; at a call, before the reply
pub record InsnsCome : Type 0 where
  pub regs : Regs
  pub memory : List MemByte
  pub ending : InsnsEnd

abbrev pub come_to : Regs → List MemByte → InsnsEnd → InsnsCome
come_to regs memory ending = record { regs = regs; memory = memory; ending = ending }

-- ---- one instruction

abbrev pub come_after : Regs → List MemByte → List Effect → InsnsCome
come_after regs memory effects =
    come_to (regs_after effects regs) (memory_after effects memory) Falls

abbrev pub end_of_way : Way → InsnsEnd
end_of_way way.Falls = Falls
end_of_way (way.Goes uid) = Goes uid
end_of_way way.Leaves = Returns

-- a label is in no window, and a barrier is passed over
abbrev pub insn_comes : Kind → List SymbolAt → List RangeAt → Insn → Regs → List MemByte →
    Option InsnsCome
insn_comes Plain symbols ranges i regs memory =
    option_map (come_after regs memory) (effects_of symbols regs memory i.pattern)
insn_comes Jump symbols ranges i regs memory =
    option_map (λ w. come_to regs memory (end_of_way w)) (jump_of symbols regs memory i.pattern)
insn_comes Call symbols ranges i regs memory =
    of_two (λ event w. Some (come_to regs memory (Calls event w)))
    (event_of symbols regs memory ranges i.pattern i.uses) (result_width i.pattern)
insn_comes Label symbols ranges i regs memory = None
insn_comes Barrier symbols ranges i regs memory = Some (come_to regs memory Falls)

-- ---- some instructions

abbrev pub goes_on : InsnsEnd → InsnsCome → (Regs → List MemByte → Option InsnsCome) →
    Option InsnsCome
goes_on Falls came rest = rest came.regs came.memory
goes_on _ came rest = Some came

-- each goes on where the one before it falls through
abbrev pub insns_come : List SymbolAt → List RangeAt → List Insn → Regs → List MemByte →
    Option InsnsCome
insns_come symbols ranges [] regs memory = Some (come_to regs memory Falls)
insns_come symbols ranges (i ∷ insns) regs memory =
    option_and_then (λ came. goes_on came.ending came (insns_come symbols ranges insns))
    (insn_comes i.kind symbols ranges i regs memory)
