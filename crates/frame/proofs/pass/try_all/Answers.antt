use Rattle.std.proofs.lemmas.Result.{err_from_is_err_and}
use Rattle.frame.proofs.Trying.{matched_more, matched_all, refused_at}
use Rattle.frame.proofs.pass.try_all.Goals as goal

pub returns-in_err-try_insn : goal.returns-in_err-try_insn
returns-in_err-try_insn c =
    let p = err_from_is_err_and c.from_residual.result c.from_residual.ensures.1 in
    rw (p.1, p.2)
    (refused_at c.args.desc.now c.args.first c.args.insns.now c.loop-insn.insn-index
    c.insn-item.result c.in_err-try_insn.field-0.0 c.loop-insn-test.true c.insn-item.is
    c.loop-insn.invariant c.in_err-try_insn.ensures)

pub loop-insn-preserved : goal.loop-insn-preserved
loop-insn-preserved c =
    matched_more c.args.desc.now c.args.first c.args.insns.now c.loop-insn.insn-index
    c.insn-item.result c.loop-insn-test.true c.insn-item.is c.loop-insn.invariant
    c.in_ok-try_insn.ensures

pub returns : goal.returns
returns c =
    matched_all c.args.desc.now c.args.first c.args.insns.now c.loop-insn.insn-index
    c.loop-insn-test.false c.loop-insn.invariant
