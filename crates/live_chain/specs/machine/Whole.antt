-- A function in two parts: GCC Internals, "Insns".
use Rattle.std.specs.Prelude.{List}
use Rattle.rtx_tree.specs.declared.function.Insn.{Insn}
use Rattle.rtx_tree.specs.declared.function.Function.{Function}

-- a function with this chain in the place of its own
abbrev pub with_chain : Function → List Insn → Function
with_chain f insns = record f { insns = insns }
