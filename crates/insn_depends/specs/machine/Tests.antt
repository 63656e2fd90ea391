-- What is asked of a register in an instruction.
use Rattle.std.specs.Prelude.{ℕ, Bool, ◌||◌}
use Rattle.rtx_tree.specs.declared.function.Insn.{Insn}
use Rattle.reg_uses.specs.Uses.{insn_uses, insn_defines}
use Rattle.insn_depends.specs.declared.registers.Test.{Test}
use Rattle.insn_depends.specs.declared.registers.Test.TheVariants as test

abbrev pub holds : Test → Insn → ℕ → Bool
holds test.Uses i reg = insn_uses i reg
holds test.Names i reg = insn_uses i reg || insn_defines i reg
