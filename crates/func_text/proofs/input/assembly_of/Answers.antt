use Rattle.std.proofs.lemmas.Result.{err_from_is_err_and}
use Rattle.func_input.proofs.Any.{input_refused}
use Rattle.func_text.specs.Assembly.{AssemblyComes}
use Rattle.func_text.proofs.Comes.{text_refused, text_unmade, text_made}
use Rattle.func_text.proofs.OneAssembly.{one_coming_of}
use Rattle.func_text.proofs.input.assembly_of.Goals as goal

pub returns-in_err-functions-clause-gives : goal.returns-in_err-functions-clause-gives
returns-in_err-functions-clause-gives c =
    let p = err_from_is_err_and c.from_residual.result c.from_residual.ensures.1 in
    let e = c.in_err-functions.field-0.0 in
    rw (p.1, p.2)
    (text_refused c.args.description.now c.args.road c.args.bytes.now e (input_refused (AssemblyComes c.args.description.now c.args.road) c.args.bytes.now e c.in_err-functions.ensures.reads))

pub returns-in_err-functions-clause-one : goal.returns-in_err-functions-clause-one
returns-in_err-functions-clause-one c = λ forms road bytes a b p q. one_coming_of forms road bytes a b p q

pub returns-in_err-compile-clause-gives : goal.returns-in_err-compile-clause-gives
returns-in_err-compile-clause-gives c =
    let p = err_from_is_err_and c.from_residual-in_err-compile.result c.from_residual-in_err-compile.ensures.1 in
    rw (p.1, p.2)
    (text_unmade c.args.description.now c.args.road c.args.bytes.now c.in_ok-functions.functions c.in_err-compile.field-0.0 c.in_ok-functions.ensures.reads
    (rw c.as_slice.ensures.value at c.in_err-compile.ensures.gives))

pub returns-in_err-compile-clause-one : goal.returns-in_err-compile-clause-one
returns-in_err-compile-clause-one c = λ forms road bytes a b p q. one_coming_of forms road bytes a b p q

pub returns-clause-gives : goal.returns-clause-gives
returns-clause-gives c =
    text_made c.args.description.now c.args.road c.args.bytes.now c.in_ok-functions.functions c.new-text.result.items c.compile.new.out.items c.in_ok-compile.field-0
    c.in_ok-functions.ensures.reads c.new-text.ensures.items (rw c.as_slice.ensures.value at c.in_ok-compile.ensures.gives)

pub returns-clause-one : goal.returns-clause-one
returns-clause-one c = λ forms road bytes a b p q. one_coming_of forms road bytes a b p q
