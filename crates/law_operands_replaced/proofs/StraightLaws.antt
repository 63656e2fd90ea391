-- Straight instructions, one part behind the other.
use Rattle.std.proofs.Common.{List, ◌++◌}
use Rattle.rtx_tree.specs.declared.machine.SymbolAt.{SymbolAt}
use Rattle.rtx_tree.specs.declared.memories.MemByte.{MemByte}
use Rattle.rtx_tree.specs.declared.tree.Rtx.{Rtx}
use Rattle.rtl_step.specs.Effect.{regs_after, memory_after}
use Rattle.rtl_step.specs.Regs.{Regs}
use Rattle.law_operands_replaced.specs.Straight.{Straight, done, next}

module _ (symbols : List SymbolAt) where
  pub straight_both : (Told : Regs → List MemByte → Type 0) (xs ys : List Rtx) (a : Regs) (m : List MemByte) (b : Regs) (n : List MemByte)
      (c : Regs) (o : List MemByte) → Straight symbols Told xs a m b n → Straight symbols Told ys b n c o → Straight symbols Told (xs ++ ys) a m c o
  straight_both Told _ ys _ _ _ _ c o (done a m) later = later
  straight_both Told _ ys _ _ _ _ c o (next x xs a m es b n is told rest) later =
      next x (xs ++ ys) a m es c o is told (straight_both Told xs ys (regs_after es a) (memory_after es m) b n c o rest later)

  -- what is told implies something else
  pub straight_told : (Told Also : Regs → List MemByte → Type 0) → ((r : Regs) (m : List MemByte) → Told r m → Also r m) → (xs : List Rtx)
      (a : Regs) (m : List MemByte) (b : Regs) (n : List MemByte) → Straight symbols Told xs a m b n → Straight symbols Also xs a m b n
  straight_told Told Also so _ _ _ _ _ (done a m) = done a m
  straight_told Told Also so _ _ _ _ _ (next x xs a m es b n is told rest) =
      next x xs a m es b n is (so (regs_after es a) (memory_after es m) told)
      (straight_told Told Also so xs (regs_after es a) (memory_after es m) b n rest)
