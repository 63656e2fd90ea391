use Rattle.std.proofs.Common.{arith}
use Rattle.std.proofs.lemmas.Result.{err_from_is_err_and}
use Rattle.peep2.proofs.Places.{is_put, is_refused}
use Rattle.peep2.proofs.pass.put_rewrite.Goals as goal

pub replace_window-requires-clause-order : goal.replace_window-requires-clause-order
replace_window-requires-clause-order c = let run = c.requires.is.rewrites.run in omega (arith, c.requires.end_is, run.some)

pub replace_window-requires-clause-within : goal.replace_window-requires-clause-within
replace_window-requires-clause-within c = let run = c.requires.is.rewrites.run in omega (arith, c.requires.end_is, run.within)

pub returns-in_err-count : goal.returns-in_err-count
returns-in_err-count c =
    let p = err_from_is_err_and c.from_residual.result c.from_residual.ensures.1 in
    rw (p.1, p.2) (is_refused c.args.desc.now c.args.chain.now c.args.place c.args.found c.requires c.in_err-count.field-0.0 c.in_err-count.ensures.gives)

pub returns : goal.returns
returns c = is_put c.args.desc.now c.args.chain.now c.args.place c.args.found c.requires _ c.in_ok-behind.field-0 c.in_ok-count.count c.in_ok-count.ensures.gives c.in_ok-behind.ensures
