use Rattle.std.proofs.Common.{◌≡◌, length}
use Rattle.md_pred.specs.Holds.{holds}
use Rattle.lower_insn.specs.Settings.{takes_comparisons}
use Rattle.lower_insn.proofs.comparison.takes_comparisons.Given as goal

abbrev pub invariant-loop-rest : goal.invariant-loop-rest
invariant-loop-rest l =
    takes_comparisons (holds l.desc) l.patterns l.number l.rest ≡ takes_comparisons (holds l.desc) l.patterns 0 l.operands

abbrev pub decreases-loop-rest : goal.decreases-loop-rest
decreases-loop-rest l = length l.rest
