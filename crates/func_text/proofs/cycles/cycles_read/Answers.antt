use Rattle.std.proofs.lemmas.Result.{err_from_is_err_and}
use Rattle.func_input.proofs.Any.{functions_refused}
use Rattle.func_input.proofs.Comes.{functions_come}
use Rattle.func_text.specs.Cycles.{FunctionsCome}
use Rattle.func_text.proofs.cycles.cycles_read.Goals as goal

pub returns-in_err-check_functions : goal.returns-in_err-check_functions
returns-in_err-check_functions c =
    let p = err_from_is_err_and c.from_residual.result c.from_residual.ensures.1 in
    rw (p.1, p.2) (functions_refused (FunctionsCome c.args.desc.now) c.args.functions.now c.in_err-check_functions.field-0.0 c.in_err-check_functions.ensures)

pub returns : goal.returns
returns c = functions_come (FunctionsCome c.args.desc.now) c.args.functions.now c.cycles_text.result c.in_ok-check_functions.ensures c.cycles_text.ensures
