use Rattle.std.proofs.Common.{map}
use Rattle.rtx_tree.specs.declared.function.Insn.{Insn}
use Rattle.peep2.proofs.Scratches.{given_ok}
use Rattle.peep2.proofs.form.given_to.Goals as goal

pub returns : goal.returns
returns c =
    given_ok c.args.says.now c.args.facts.now (map (λ (i : Insn). i.pattern) c.args.insns.now) c.args.operands c.as_slice.result.now c.as_slice-2.result.now c.as_slice-3.result.now c.in_ok-regs.regs
    c.with_scratches.result c.as_slice.ensures.value c.as_slice-2.ensures.value c.as_slice-3.ensures.value c.in_ok-regs.ensures c.with_scratches.ensures
