use Rattle.std.proofs.lemmas.Result.{err_from_is_err_and}
use Rattle.reload.proofs.Running.{makes_on_at, makes_wrong_at, makes_all}
use Rattle.reload.proofs.pass.reloaded.Goals as goal

pub returns-in_err-next : goal.returns-in_err-next
returns-in_err-next c =
    let s = c.args.setting.now in
    let p = err_from_is_err_and c.from_residual.result c.from_residual.ensures.1 in
    rw (p.1, p.2)
    (makes_wrong_at s.desc.now s.homes.now s.layout.now c.args.uid c.args.chain.now
    c.loop-insn.insn-index c.loop-insn.insns
    c.insn-item.result c.loop-insn.next c.in_err-next.field-0.0 c.loop-insn-test.true c.insn-item.is
    c.loop-insn.invariant
    c.in_err-next.ensures)

pub loop-insn-preserved : goal.loop-insn-preserved
loop-insn-preserved c =
    let s = c.args.setting.now in
    makes_on_at s.desc.now s.homes.now s.layout.now c.args.uid c.args.chain.now
    c.loop-insn.insn-index c.loop-insn.insns
    c.add_insn.new.insns c.insn-item.result c.loop-insn.next c.in_ok-next.next c.loop-insn-test.true
    c.insn-item.is
    c.loop-insn.invariant c.in_ok-next.ensures

pub returns : goal.returns
returns c =
    let s = c.args.setting.now in
    makes_all s.desc.now s.homes.now s.layout.now c.args.uid c.args.chain.now c.loop-insn.insn-index
    c.loop-insn.insns
    c.loop-insn.next c.loop-insn-test.false c.loop-insn.invariant
