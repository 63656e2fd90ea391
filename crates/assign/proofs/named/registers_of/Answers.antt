use Rattle.std.proofs.Common.{arith}
use Rattle.rtx_tree.specs.declared.function.Insn.{Insn}
use Rattle.reg_uses.specs.Effects.{reads}
use Rattle.reg_uses.proofs.JoinLaws.{any_joined}
use Rattle.assign.proofs.named.registers_of.Goals as goal

pub loop-insn-preserved : goal.loop-insn-preserved
loop-insn-preserved c reg =
    any_joined (λ (i : Insn). reads reg i.pattern) c.args.insns.now c.loop-insn.insn-index c.insn-item.result _ _ _ (omega arith) c.insn-item.is (c.loop-insn.invariant reg) (c.in_ok-add_reads.ensures reg)
