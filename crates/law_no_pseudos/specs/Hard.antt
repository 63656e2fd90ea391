-- Functions that name registers of the machine alone: GCC Internals, "Registers and Memory" (hard
-- registers and pseudo registers) and "RTL passes" (reload).
use Rattle.std.specs.Prelude.{List}
use Rattle.std.specs.List.{AllByRecursion}
use Rattle.rtx_tree.specs.declared.function.Insn.{Insn}
use Rattle.rtx_tree.specs.declared.function.Function.{Function}
use Rattle.law_emitted_hard.specs.Hard.{IsHard}

-- no pseudo register, and not the address of the locals, stands in an instruction
abbrev pub IsHardInsn : Insn → Type 0
IsHardInsn i = IsHard i.pattern

abbrev pub AreHardInsns : List Insn → Type 0
AreHardInsns insns = AllByRecursion IsHardInsn insns

-- nor in one of a function
abbrev pub IsHardFunction : Function → Type 0
IsHardFunction f = AreHardInsns f.insns
