-- What stands in the place of each instruction, by what it does there.
use Rattle.std.proofs.Common.{◌≡◌, ℕ, ◌+◌, true, false, List, [], ◌∷◌, ◌++◌, Some}
use Rattle.std.specs.Prelude.{slice_get}
use Rattle.rtx_tree.specs.declared.function.Function.{Function}
use Rattle.rtx_tree.specs.declared.function.Insn.{Insn}
use Rattle.rtx_tree.specs.declared.function.Kind.TheVariants as kind
use Rattle.rtx_tree.specs.declared.memories.MemByte.{MemByte}
use Rattle.rtl_step.specs.Call.{event_of, result_width}
use Rattle.rtl_step.specs.Effect.{effects_of, regs_after, memory_after}
use Rattle.rtl_step.specs.Jump.{jump_of}
use Rattle.rtl_step.specs.Regs.{Regs}
use Rattle.rtl_step.specs.Step.{act, is_mark}
use Rattle.rtl_step.specs.declared.call.CallEvent.{CallEvent}
use Rattle.rtl_step.specs.declared.effect.Effect.{Effect}
use Rattle.rtl_step.specs.declared.jump.Way.{Way}
use Rattle.rtl_step.specs.declared.step.State.{State}
use Rattle.rtl_step.specs.declared.step.StepEnd.TheVariants as ends
use Rattle.same_behaviour.specs.Lawful.{IsMemory}
use Rattle.law_window_kept.specs.Same.{KnownToo}
use Rattle.law_reload_moves.proofs.law_window_replaced.Stands.{Stands}
use Rattle.law_homes.specs.Knows.{is_scratch}
use Rattle.law_homes.proofs.Plain.{plain_keeps}
use Rattle.law_homes.proofs.Setting.{Setting, StandsIn}
use Rattle.law_reload.specs.Steps.{Leads}
use Rattle.law_reload.proofs.Law.{pair_of}

-- no label or barrier stands there
abbrev pub Unmarked : List Insn → Type 0
Unmarked [] = Unit {0}
Unmarked (i ∷ insns) = (is_mark i.kind ≡ false) × Unmarked insns

module _ (c : Setting) (g : Function) where
  -- From a state so many steps lead to one with other registers and this memory, which stands at
  -- the rest of the chain. But of t3 to t6 as much is known as in these registers.
  pub record Comes (u : State) (known : Regs) (memory : List MemByte) (rest : List Insn) : Type 0
    where
      pub count : ℕ
      pub next_place : ℕ
      pub place : ℕ
      pub regs : Regs
      pub leads : Leads (pair_of c g) count u (record u {
        next = next_place;
        regs = regs;
        memory =
            memory;
      })
      pub stands : Stands g.insns next_place rest place
      pub knows : (reg : ℕ) → is_scratch reg ≡ false → KnownToo known regs reg

  -- some lead to a jump, which goes this way
  pub record Jumps (u : State) (way : Way) (j : Insn) (rest : List Insn) : Type 0 where
    pub comes : Comes u u.regs u.memory (j ∷ rest)
    pub goes : jump_of c.world.symbols comes.regs u.memory j.pattern ≡ Some way

  -- some lead to a call, which tells this, and whose result is known in the width of another call's
  pub record Calls (u : State) (event : CallEvent) (i j : Insn) (rest : List Insn) : Type 0 where
    pub comes : Comes u u.regs u.memory (j ∷ rest)
    pub tells : event_of c.world.symbols comes.regs u.memory u.visible j.pattern j.uses ≡ Some event
    pub width : result_width j.pattern ≡ result_width i.pattern

  module _ (place : ℕ) (i : Insn) (at : slice_get c.f.insns place ≡ Some i) where
    -- what is asked of a window in each two states that stand beside each other at the instruction
    abbrev pub DoesPlain : (i.kind ≡ kind.Plain) → List Insn → Type 0
    DoesPlain plain window = (s u : State) (stands : StandsIn c place s u) →
        IsMemory u.memory → (es : List Effect)
        (is : effects_of c.world.symbols s.regs s.memory i.pattern ≡ Some es) (rest : List Insn)
        (q : ℕ) →
        Stands g.insns u.next (window ++ rest) q →
        Comes u (regs_after (plain_keeps c place i at plain s u stands es is).these u.regs)
        (memory_after (plain_keeps c place i at plain s u stands es is).these u.memory) rest

    abbrev pub DoesJump : List Insn → Insn → Type 0
    DoesJump before j = (s u : State) → StandsIn c place s u → IsMemory u.memory → (way : Way) →
        jump_of c.world.symbols s.regs s.memory i.pattern ≡ Some way →
        (rest : List Insn) (q : ℕ) → Stands g.insns u.next (before ++ j ∷ rest) q →
        Jumps u way j rest

    abbrev pub DoesCall : List Insn → Insn → Type 0
    DoesCall before j = (s u : State) → StandsIn c place s u → IsMemory u.memory →
        (event : CallEvent) →
        event_of c.world.symbols s.regs s.memory s.visible i.pattern i.uses ≡ Some event →
        (rest : List Insn) (q : ℕ) → Stands g.insns u.next (before ++ j ∷ rest) q →
        Calls u event i j rest

    -- A label or a barrier; instructions that do what a plain one does; some before a jump or a
    -- call; or whatever, where the instruction has no value.
    pub data Does : List Insn → Type 0 where
      mark : (j : Insn) → is_mark i.kind ≡ true → j.kind ≡ i.kind → j.uid ≡ i.uid → Does (j ∷ [])
      plain : (window : List Insn) (is : i.kind ≡ kind.Plain) → Unmarked window →
          DoesPlain is window → Does window
      jump : (before : List Insn) (j : Insn) → i.kind ≡ kind.Jump → j.kind ≡ kind.Jump →
          Unmarked before → DoesJump before j →
          Does (before ++ j ∷ [])
      call : (before : List Insn) (j : Insn) → i.kind ≡ kind.Call → j.kind ≡ kind.Call →
          Unmarked before → DoesCall before j →
          Does (before ++ j ∷ [])
      never : (window : List Insn) → is_mark i.kind ≡ false → Unmarked window →
          ((s : State) → act i.kind c.world c.f i place s ≡ (ends.Undefined, s)) → Does window

  -- so for each instruction of a chain, from a place of the function on
  pub data InPlace : ℕ → List Insn → List Insn → Type 0 where
    none : (place : ℕ) → InPlace place [] []
    one_more : (place : ℕ) (i : Insn) (insns window rest : List Insn) →
        ((at : slice_get c.f.insns place ≡ Some i) → Does place i at window) →
        InPlace (place + 1) insns rest →
        InPlace place (i ∷ insns) (window ++ rest)

  -- The rests of both chains from places on, of which the second has in their place what does the
  -- same.
  pub record At (p q : ℕ) : Type 0 where
    pub xs : List Insn
    pub ys : List Insn
    pub place : ℕ
    pub are : InPlace p xs ys
    pub stands : Stands c.f.insns p xs p
    pub other : Stands g.insns q ys place
