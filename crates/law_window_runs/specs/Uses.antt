-- What a window of instructions uses and defines: GCC Internals, "Insns" and "Liveness
-- information".
use Rattle.std.specs.Prelude.{ℕ, Bool, false, ◌||◌, ◌&&◌, not, List, [], ◌∷◌}
use Rattle.std.specs.List.{list_any}
use Rattle.rtx_tree.specs.declared.function.Insn.{Insn}
use Rattle.reg_uses.specs.Uses.{insn_uses, insn_defines}

-- an instruction uses the register, and none before it defines it
abbrev pub window_uses : List Insn → ℕ → Bool
window_uses [] reg = false
window_uses (i ∷ insns) reg = insn_uses i reg || (not (insn_defines i reg) && window_uses insns reg)

-- an instruction defines the register
abbrev pub window_defines : List Insn → ℕ → Bool
window_defines insns reg = list_any (λ i. insn_defines i reg) insns
