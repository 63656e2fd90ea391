use Rattle.std.proofs.Common.{◌≡◌, ◌++◌, length}
use Rattle.lower_insn.specs.Settings.{compared}
use Rattle.lower_insn.proofs.comparison.compared.Given as goal

abbrev pub invariant-loop-rest : goal.invariant-loop-rest
invariant-loop-rest l = l.all ++ compared l.rest ≡ compared l.operands

abbrev pub decreases-loop-rest : goal.decreases-loop-rest
decreases-loop-rest l = length l.rest
