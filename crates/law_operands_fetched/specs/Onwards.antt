-- Steps of a function that go on to the next instruction: GCC Internals, "Insns".
use Rattle.std.specs.Prelude.{◌≡◌, ℕ, zero, suc, List, [], ◌∷◌}
use Rattle.law_operands_replaced.specs.rtx_tree.declared.function.Function.{Function}
use Rattle.law_operands_replaced.specs.rtx_tree.declared.function.Insn.{Insn}
use Rattle.law_operands_replaced.specs.rtx_tree.declared.function.Kind.TheVariants.{Plain}
use Rattle.law_operands_replaced.specs.rtx_tree.declared.machine.World.{World}
use Rattle.law_operands_replaced.specs.rtx_tree.declared.memories.MemByte.{MemByte}
use Rattle.law_operands_replaced.specs.rtx_tree.declared.tree.Rtx.{Rtx}
use Rattle.law_operands_replaced.specs.rtl_step.Regs.{Regs}
use Rattle.law_operands_replaced.specs.rtl_step.Step.{step}
use Rattle.law_operands_replaced.specs.rtl_step.declared.step.State.{State}
use Rattle.law_operands_replaced.specs.rtl_step.declared.step.StepEnd.TheVariants.{Next}

-- A number of steps that leads from one state to another, each step to the next instruction.
-- Behind each of them all is as told.
pub data Onwards (world : World) (g : Function) (Told : Regs → List MemByte → Type 0) : ℕ → State → State → Type 0 where
  stays : (u : State) → Onwards world g Told zero u u
  on : (k : ℕ) (u next last : State) → step world g u ≡ (Next, next) → Told next.regs next.memory →
      Onwards world g Told k next last →
      Onwards world g Told (suc k) u last

-- plain instructions with given patterns, in order
abbrev pub ArePlain : List Insn → List Rtx → Type 0
ArePlain [] [] = Unit {0}
ArePlain [] (x ∷ xs) = ⊥
ArePlain (i ∷ insns) [] = ⊥
ArePlain (i ∷ insns) (x ∷ xs) = (i.kind ≡ Plain) × (i.pattern ≡ x) × ArePlain insns xs
