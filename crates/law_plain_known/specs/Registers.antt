-- Registers that may be operands: GCC Internals, "Registers and Memory" (`virtual-stack-vars`).
use Rattle.std.specs.Prelude.{◌≡◌, ℕ, pos, false}
use Rattle.std.specs.Ordering.{int_eq}
use Rattle.rtx_tree.specs.Registers.{virtual_stack_vars}

-- a number that is not that of virtual-stack-vars
abbrev pub IsTrueRegister : ℕ → Type 0
IsTrueRegister reg = int_eq (pos reg) (pos virtual_stack_vars) ≡ false
