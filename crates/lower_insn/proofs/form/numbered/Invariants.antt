use Rattle.std.proofs.Common.{drop}
use Rattle.lower_insn.proofs.Numbered.{Numbers}
use Rattle.lower_insn.proofs.form.numbered.Given as goal

abbrev pub invariant-loop-operand : goal.invariant-loop-operand
invariant-loop-operand l = Numbers l.operands l.numbered l.number (drop l.operand-index l.operands)
