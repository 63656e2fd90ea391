-- The registers of a chain.
use Rattle.std.specs.Prelude.{ℕ, Bool, List}
use Rattle.std.specs.List.{list_any}
use Rattle.rtx_tree.specs.declared.function.Insn.{Insn}
use Rattle.reg_uses.specs.Effects.{reads}

-- the register, one that keeps something, stands in an instruction
abbrev pub stands_in : List Insn → ℕ → Bool
stands_in insns reg = list_any (λ i. reads reg i.pattern) insns
