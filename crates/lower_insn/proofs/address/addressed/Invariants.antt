use Rattle.std.proofs.Common.{drop}
use Rattle.lower_insn.proofs.Joined.{Addresses}
use Rattle.lower_insn.proofs.address.addressed.Given as goal

abbrev pub invariant-loop-operand : goal.invariant-loop-operand
invariant-loop-operand l = Addresses l.operands l.next l.so_far (drop l.operand-index l.operands)
