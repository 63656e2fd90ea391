-- A plain instruction with its moves, in a function: so many steps as they are lead to what the instruction leaves, and what stays through
-- the run stays at each of them.
use Rattle.std.proofs.Common.{ℕ, length, List, [], ◌∷◌}
use Rattle.law_operands_replaced.specs.rtx_tree.declared.function.Function.{Function}
use Rattle.law_operands_replaced.specs.rtx_tree.declared.function.Insn.{Insn}
use Rattle.law_operands_replaced.specs.rtx_tree.declared.machine.Start.{Start}
use Rattle.law_operands_replaced.specs.rtx_tree.declared.machine.World.{World}
use Rattle.law_operands_replaced.specs.rtx_tree.declared.memories.MemByte.{MemByte}
use Rattle.law_operands_replaced.specs.rtl_step.Effect.{regs_after, memory_after}
use Rattle.law_operands_replaced.specs.rtl_step.Regs.{Regs}
use Rattle.law_operands_replaced.specs.rtl_step.declared.effect.Effect.{Effect}
use Rattle.law_operands_replaced.specs.rtl_step.declared.step.State.{State}
use Rattle.assign.specs.declared.places.Layout.{Layout}
use Rattle.law_operands_replaced.proofs.law_frame.law_window_replaced.Stands.{Stands}
use Rattle.law_operands_replaced.specs.Spare.{KnowsRest}
use Rattle.law_operands_fetched.specs.Onwards.{Onwards}
use Rattle.law_operands_fetched.specs.Tame.{AreTame}
use Rattle.law_operands_fetched.proofs.Window.{AllStay}
use Rattle.law_operands_fetched.proofs.Keeping.{Stay, stay_rest, stay_tame}

module _ (world : World) (g : Function) (locals : ℕ) (layout : Layout) (start : Start) (u : State) where
  -- what stays through the run
  abbrev Told : Regs → List MemByte → Type 0
  Told = Stay locals layout start u

  -- behind tame effects all of it stays
  pub tame_stay : (es : List Effect) → AreTame locals layout start es →
      AllStay world.symbols Told (stay_rest locals layout start u) es
  tame_stay [] tame = tt
  tame_stay (e ∷ es) tame = (stay_tame locals layout start u e tame.0, tame_stay es tame.1)

  -- a state with the memory that the effects leave, which knows of each register outside t3 to t6 what they leave
  pub record ComesTo (es : List Effect) (insns rest : List Insn) : Type 0 where
    pub next_place : ℕ
    pub q : ℕ
    pub regs : Regs
    pub steps : Onwards world g Told (length insns) u (record u { next = next_place; regs = regs; memory = memory_after es u.memory })
    pub stands : Stands g.insns next_place rest q
    pub known : KnowsRest (regs_after es u.regs) regs
