-- What is asked of a function in a window of which other instructions stand: the number of each
-- register counts as itself, whichever integer stands for it (GCC Internals, "Registers and
-- Memory").
use Rattle.std.specs.Prelude.{◌≡◌, ℕ, true, Some, slice_get}
use Rattle.rtx_tree.specs.declared.function.Function.{Function}
use Rattle.rtx_tree.specs.declared.function.Insn.{Insn}
use Rattle.sym_insns.specs.Shape.{all_natural}

-- the registers of each pattern have natural numbers
abbrev pub RegistersAreNatural : Function → Type 0
RegistersAreNatural f =
    (place : ℕ) (i : Insn) → slice_get f.insns place ≡ Some i → all_natural i.pattern ≡ true
