use Rattle.std.proofs.Common.{drop}
use Rattle.md_pred.specs.Holds.{holds}
use Rattle.lower_insn.proofs.Joined.{Fits}
use Rattle.lower_insn.proofs.fit.fitted.Given as goal

abbrev pub invariant-loop-operand : goal.invariant-loop-operand
invariant-loop-operand l = Fits (holds l.desc) l.patterns l.held l.operands l.next l.so_far l.number (drop l.operand-index l.operands)
