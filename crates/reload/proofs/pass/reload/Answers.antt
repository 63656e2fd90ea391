use Rattle.std.proofs.lemmas.Result.{err_from_is_err_and}
use Rattle.reload.proofs.Adding.{reload_refused, reload_gave}
use Rattle.reload.proofs.pass.reload.Goals as goal

pub returns-in_err-insns-clause-gives : goal.returns-in_err-insns-clause-gives
returns-in_err-insns-clause-gives c =
    let p = err_from_is_err_and c.from_residual-in_err-insns.result
    c.from_residual-in_err-insns.ensures.1 in
    rw (p.1, p.2)
    (reload_refused c.args.desc.now c.args.homes.now c.args.layout.now c.args.f c.in_ok-uid.uid
    c.as_slice.result.now
    c.as_slice-2.result.now c.as_slice.ensures.value c.in_ok-uid.ensures c.as_slice-2.ensures.value
    c.in_err-insns.field-0.0
    c.in_err-insns.ensures)

pub returns-clause-gives : goal.returns-clause-gives
returns-clause-gives c =
    reload_gave c.args.desc.now c.args.homes.now c.args.layout.now c.args.f c.in_ok-uid.uid
    c.as_slice.result.now
    c.as_slice-2.result.now c.as_slice.ensures.value c.in_ok-uid.ensures c.as_slice-2.ensures.value
    c.in_ok-insns.insns
    c.with_insns.result c.with_insns.ensures c.in_ok-insns.ensures
