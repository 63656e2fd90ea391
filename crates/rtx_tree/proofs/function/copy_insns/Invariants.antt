use Rattle.std.proofs.Common.{◌≡◌, take}
use Rattle.rtx_tree.proofs.function.copy_insns.Given as goal

abbrev pub invariant-loop-insn : goal.invariant-loop-insn
invariant-loop-insn l = l.copies ≡ take l.insn-index l.insns
