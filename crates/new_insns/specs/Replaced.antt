-- A function with others in the place of a window of its chain.
use Rattle.std.specs.Prelude.{ℕ, ◌-◌, List, ◌++◌, take, drop}
use Rattle.rtx_tree.specs.declared.function.Insn.{Insn}
use Rattle.rtx_tree.specs.declared.function.Function.{Function}

-- the window from one place up to another
abbrev pub window : Function → ℕ → ℕ → List Insn
window f first end = take (end - first) (drop first f.insns)

-- the function with new instructions in the window's place
abbrev pub replaced : Function → ℕ → ℕ → List Insn → Function
replaced f first end new = record f { insns = take first f.insns ++ (new ++ drop end f.insns) }
