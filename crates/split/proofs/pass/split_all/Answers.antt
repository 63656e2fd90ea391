use Rattle.std.proofs.lemmas.Result.{err_from_is_err_and}
use Rattle.split.proofs.Running.{whole_split, whole_stops}
use Rattle.split.proofs.pass.split_all.Goals as goal

pub returns-in_err-split_run : goal.returns-in_err-split_run
returns-in_err-split_run c =
    let p = err_from_is_err_and c.from_residual.result c.from_residual.ensures.1 in
    rw (p.1, p.2)
    (whole_stops c.args.desc.now c.args.pass c.args.f c.of-chain.result c.len-count.result c.in_err-split_run.field-0.0 c.of-chain.ensures c.len-count.ensures c.in_err-split_run.ensures)

pub returns : goal.returns
returns c =
    whole_split c.args.desc.now c.args.pass c.args.f c.of-chain.result c.split_run.new.chain c.in_ok-into_function.field-0 c.len-count.result c.in_ok-split_run.field-0 c.of-chain.ensures c.in_ok-into_function.ensures
    c.len-count.ensures c.in_ok-split_run.ensures
