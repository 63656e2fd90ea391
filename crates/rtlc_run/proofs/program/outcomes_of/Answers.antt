use Rattle.std.proofs.lemmas.Result.{err_from_is_err_and}
use Rattle.rtlc_run.proofs.Tellings.{code_refused}
use Rattle.rtlc_run.proofs.program.outcomes_of.Goals as goal

pub returns-in_err-coded-clause-gives : goal.returns-in_err-coded-clause-gives
returns-in_err-coded-clause-gives c =
    let p = err_from_is_err_and c.from_residual.result c.from_residual.ensures.1 in
    rw (p.1, p.2) (code_refused c.args.description.now c.args.bytes.now c.args.function.now c.args.steps c.args.args c.in_err-coded.field-0.0 (rw c.bytes.ensures at c.in_err-coded.ensures.gives))
