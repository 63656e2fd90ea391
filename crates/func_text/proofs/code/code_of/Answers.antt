use Rattle.std.proofs.lemmas.Result.{err_from_is_err_and}
use Rattle.pass_name.specs.declared.road.Road.TheVariants.{Usual}
use Rattle.func_input.proofs.Any.{input_refused}
use Rattle.func_text.specs.Assembly.{AssemblyComes}
use Rattle.func_text.specs.Code.{NameComes, CodeComes}
use Rattle.func_text.proofs.CodeLaws.{one_code, unread_refused, gives_map}
use Rattle.func_text.proofs.code.code_of.Goals as goal

pub returns-in_err-functions-clause-gives : goal.returns-in_err-functions-clause-gives
returns-in_err-functions-clause-gives c =
    let p = err_from_is_err_and c.from_residual.result c.from_residual.ensures.1 in
    let e = c.in_err-functions.field-0.0 in
    let bytes = c.args.bytes.now in
    let forms = c.args.description.now in
    rw (p.1, p.2) (unread_refused forms bytes c.args.name.now e c.in_err-functions.ensures.unread (input_refused (AssemblyComes forms Usual) bytes e c.in_err-functions.ensures.reads))

pub returns-in_err-functions-clause-one : goal.returns-in_err-functions-clause-one
returns-in_err-functions-clause-one c = λ forms bytes name a b p q. one_code forms bytes name a b p q

pub returns-clause-gives : goal.returns-clause-gives
returns-clause-gives c =
    gives_map c.name_comes.result (NameComes c.args.description.now c.in_ok-functions.functions c.args.name.now) (CodeComes c.args.description.now c.args.bytes.now c.args.name.now)
    (λ a comes. CodeComes.read c.in_ok-functions.functions a c.in_ok-functions.ensures.reads comes) c.name_comes.ensures.comes

pub returns-clause-one : goal.returns-clause-one
returns-clause-one c = λ forms bytes name a b p q. one_code forms bytes name a b p q
