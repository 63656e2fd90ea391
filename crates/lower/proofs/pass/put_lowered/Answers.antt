use Rattle.std.proofs.lemmas.Result.{err_from_is_err_and}
use Rattle.lower.proofs.Places.{is_put, is_refused}
use Rattle.lower.proofs.pass.put_lowered.Goals as goal

pub returns-in_err-count : goal.returns-in_err-count
returns-in_err-count c =
    let p = err_from_is_err_and c.from_residual.result c.from_residual.ensures.1 in
    rw (p.1, p.2) (is_refused c.args.desc.now c.args.chain.now c.args.place c.args.made c.requires.within c.requires.lowers c.in_err-count.field-0.0 c.in_err-count.ensures.gives)

pub returns : goal.returns
returns c = is_put c.args.desc.now c.args.chain.now c.args.place c.args.made c.requires.within c.requires.lowers _ c.in_ok-behind.field-0 c.in_ok-count.count c.in_ok-count.ensures.gives c.in_ok-behind.ensures
