use Rattle.std.proofs.Common.{drop}
use Rattle.reload.proofs.Running.{Makes}
use Rattle.reload.proofs.pass.reloaded.Given as goal

abbrev pub invariant-loop-insn : goal.invariant-loop-insn
invariant-loop-insn l = Makes l.setting.desc.now l.setting.homes.now l.setting.layout.now l.uid l.chain l.insns l.next
    (drop l.insn-index l.chain)
