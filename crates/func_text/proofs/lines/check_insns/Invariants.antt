use Rattle.std.proofs.Common.{drop}
use Rattle.func_text.specs.Recog.{OutputComes}
use Rattle.func_text.proofs.Looked.{Looked}
use Rattle.func_text.proofs.lines.check_insns.Given as goal

abbrev pub invariant-loop-insn : goal.invariant-loop-insn
invariant-loop-insn l = Looked (OutputComes l.desc l.function) l.insns (drop l.insn-index l.insns)
