-- Instructions that go on, one behind the other: GCC Internals, "Insns" and "Side Effect
-- Expressions".
use Rattle.std.specs.Prelude.{◌≡◌, List, [], ◌∷◌, Some}
use Rattle.rtx_tree.specs.declared.machine.SymbolAt.{SymbolAt}
use Rattle.rtx_tree.specs.declared.memories.MemByte.{MemByte}
use Rattle.rtx_tree.specs.declared.tree.Rtx.{Rtx}
use Rattle.rtl_step.specs.Effect.{effects_of, regs_after, memory_after}
use Rattle.rtl_step.specs.Regs.{Regs}
use Rattle.rtl_step.specs.declared.effect.Effect.{Effect}

-- Each of some instructions has its effects, and they lead from registers and memory to others.
-- Behind each of them all are as told.
pub data Straight (symbols : List SymbolAt) (Told : Regs → List MemByte → Type 0) :
    List Rtx → Regs → List MemByte → Regs → List MemByte → Type 0 where
  done : (regs : Regs) (memory : List MemByte) → Straight symbols Told [] regs memory regs memory
  next : (x : Rtx) (xs : List Rtx) (regs : Regs) (memory : List MemByte) (es : List Effect) (last : Regs) (end : List MemByte) →
      effects_of symbols regs memory x ≡ Some es → Told (regs_after es regs) (memory_after es memory) →
      Straight symbols Told xs (regs_after es regs) (memory_after es memory) last end → Straight symbols Told (x ∷ xs) regs memory last end
