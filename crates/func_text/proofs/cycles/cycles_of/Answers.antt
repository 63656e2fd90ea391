use Rattle.std.proofs.lemmas.Result.{err_from_is_err_and}
use Rattle.func_input.proofs.Any.{input_refused}
use Rattle.func_input.proofs.Comes.{comes_to}
use Rattle.func_input.proofs.One.{one_coming_to}
use Rattle.func_text.specs.Cycles.{FunctionsCome}
use Rattle.func_text.proofs.CyclesOne.{functions_one}
use Rattle.func_text.proofs.cycles.cycles_of.Goals as goal

pub returns-in_err-functions-clause-gives : goal.returns-in_err-functions-clause-gives
returns-in_err-functions-clause-gives c =
    let p = err_from_is_err_and c.from_residual.result c.from_residual.ensures.1 in
    rw (p.1, p.2) (input_refused (FunctionsCome c.args.desc.now) c.args.bytes.now c.in_err-functions.field-0.0 c.in_err-functions.ensures.reads)

pub returns-in_err-functions-clause-one : goal.returns-in_err-functions-clause-one
returns-in_err-functions-clause-one c = λ forms bytes a b p q. one_coming_to (FunctionsCome forms) bytes a b (functions_one forms) p q

pub returns-clause-gives : goal.returns-clause-gives
returns-clause-gives c = comes_to (FunctionsCome c.args.desc.now) c.args.bytes.now c.in_ok-functions.functions c.cycles_read.result c.in_ok-functions.ensures.reads (rw c.as_slice.ensures.value at c.cycles_read.ensures)

pub returns-clause-one : goal.returns-clause-one
returns-clause-one c = λ forms bytes a b p q. one_coming_to (FunctionsCome forms) bytes a b (functions_one forms) p q
