use Rattle.std.proofs.Common.{◌≡◌, max, drop}
use Rattle.rtl_chain.specs.Counts.{greatest_uid}
use Rattle.rtl_chain.proofs.counts.greatest_uid.Given as goal

abbrev pub invariant-loop-insn : goal.invariant-loop-insn
invariant-loop-insn l = max l.greatest (greatest_uid (drop l.insn-index l.insns)) ≡ greatest_uid l.insns
