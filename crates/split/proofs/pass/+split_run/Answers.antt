use Rattle.std.proofs.Common.{arith}
use Rattle.std.proofs.lemmas.Result.{err_from_is_err_and}
use Rattle.split.proofs.Running.{stops_on, run_stops_on, place_made}
use Rattle.split.proofs.pass.+split_run.Goals as goal

pub returns-in_err-made : goal.returns-in_err-made
returns-in_err-made t c =
    let p = err_from_is_err_and c.from_residual.result c.from_residual.ensures.1 in
    rw (p.1, p.2)
    (stops_on c.args.desc.now c.args.pass c.args.count c.args.depth c.args.chain.now c.args.place c.loop-left.chain c.loop-left.at c.loop-left.left c.loop-left.invariant
    c.in_err-made.field-0.0 (omega (arith, c.loop-left-test.true)) c.in_err-made.ensures)

pub returns-in_err-at-in-Some : goal.returns-in_err-at-in-Some
returns-in_err-at-in-Some t c =
    let p = err_from_is_err_and c.from_residual-in_err-at-in-Some.result c.from_residual-in_err-at-in-Some.ensures.1 in
    rw (p.1, p.2)
    (run_stops_on c.args.desc.now c.args.pass c.args.count c.args.depth c.args.chain.now c.args.place c.loop-left.chain c.loop-left.at c.loop-left.left c.loop-left.invariant
    c.split_place.new.chain c.in-Some.made c.in_err-at-in-Some.field-0.0 (omega (arith, c.loop-left-test.true))
    (place_made c.args.desc.now c.args.pass c.args.depth c.loop-left.at c.in-Some.made c.loop-left.chain c.split_place.new.chain c.in_ok-made.field-0 c.in-Some.is c.in_ok-made.ensures)
    c.in_err-at-in-Some.ensures)
