use Rattle.std.proofs.lemmas.Result.{err_from_is_err_and}
use Rattle.func_input.proofs.Any.{functions_refused}
use Rattle.func_text.specs.Assembly.{AssemblyComes}
use Rattle.func_text.proofs.Comes.{functions_come}
use Rattle.func_text.proofs.input.assembled.Goals as goal

pub returns-in_err-check_functions : goal.returns-in_err-check_functions
returns-in_err-check_functions c =
    let p = err_from_is_err_and c.from_residual.result c.from_residual.ensures.1 in
    rw (p.1, p.2) (functions_refused (AssemblyComes c.args.description.now c.args.road) c.args.functions.now c.in_err-check_functions.field-0.0 c.in_err-check_functions.ensures)

pub returns : goal.returns
returns c = functions_come c.args.description.now c.args.road c.args.functions.now c.assemble.result c.in_ok-check_functions.ensures c.assemble.ensures
