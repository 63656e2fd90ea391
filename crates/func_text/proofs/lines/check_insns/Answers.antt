use Rattle.std.proofs.Common.{subst, arith}
use Rattle.std.proofs.lemmas.List.{drop_all}
use Rattle.std.proofs.lemmas.Result.{err_from_is_err_and}
use Rattle.func_text.specs.Recog.{OutputComes}
use Rattle.func_text.proofs.Looked.{Looked, looked_wrong, looked_all}
use Rattle.func_text.proofs.lines.check_insns.Goals as goal

pub returns-in_err-check_insn : goal.returns-in_err-check_insn
returns-in_err-check_insn c =
    let p = err_from_is_err_and c.from_residual.result c.from_residual.ensures.1 in
    rw (p.1, p.2)
    (looked_wrong (OutputComes c.args.desc.now c.args.function.now) c.args.insns.now c.loop-insn.insn-index c.insn-item.result c.in_err-check_insn.field-0.0
    (omega arith) c.insn-item.is c.in_err-check_insn.ensures c.loop-insn.invariant)

pub returns : goal.returns
returns c =
    let comes = OutputComes c.args.desc.now c.args.function.now in
    looked_all comes c.args.insns.now (subst (Looked comes c.args.insns.now) (drop_all c.loop-insn.insn-index c.args.insns.now (omega arith)) c.loop-insn.invariant)
