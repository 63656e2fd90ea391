use Rattle.std.proofs.Common.{◌≡◌, max, drop}
use Rattle.rtl_chain.specs.Counts.{next_pseudo}
use Rattle.rtl_chain.proofs.counts.next_pseudo.Given as goal

abbrev pub invariant-loop-insn : goal.invariant-loop-insn
invariant-loop-insn l = max l.greatest (next_pseudo (drop l.insn-index l.insns)) ≡ next_pseudo l.insns
