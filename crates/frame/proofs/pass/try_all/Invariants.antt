use Rattle.std.proofs.Common.{take}
use Rattle.frame.specs.Framed.{AreMatched}
use Rattle.frame.proofs.pass.try_all.Given as goal

abbrev pub invariant-loop-insn : goal.invariant-loop-insn
invariant-loop-insn l = AreMatched l.desc l.first (take l.insn-index l.insns)
