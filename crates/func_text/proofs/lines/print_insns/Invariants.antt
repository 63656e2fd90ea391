use Rattle.std.proofs.Common.{drop}
use Rattle.func_text.specs.Recog.{OutputComes}
use Rattle.func_after.proofs.Each.{Makes}
use Rattle.func_text.proofs.lines.print_insns.Given as goal

abbrev pub invariant-loop-insn : goal.invariant-loop-insn
invariant-loop-insn l = Makes (OutputComes l.desc l.function) l.insns l.initial.out.items l.out.items (drop l.insn-index l.insns)
