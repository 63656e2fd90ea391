use Rattle.std.proofs.lemmas.Result.{err_from_is_err_and}
use Rattle.func_input.proofs.Any.{input_refused}
use Rattle.func_input.proofs.Comes.{comes_to}
use Rattle.law_image.proofs.Same.{words_do}
use Rattle.func_image.specs.Image.{WordsCome}
use Rattle.func_image.proofs.One.{one_image_of}
use Rattle.func_image.proofs.image.image_of.Goals as goal

pub returns-in_err-functions-clause-gives : goal.returns-in_err-functions-clause-gives
returns-in_err-functions-clause-gives c =
    let p = err_from_is_err_and c.from_residual.result c.from_residual.ensures.1 in
    rw (p.1, p.2) (input_refused (WordsCome c.args.description.now) c.args.bytes.now c.in_err-functions.field-0.0 c.in_err-functions.ensures.reads)

pub returns-in_err-functions-clause-one : goal.returns-in_err-functions-clause-one
returns-in_err-functions-clause-one c = λ forms bytes a b p q. one_image_of forms bytes a b p q

pub returns-in_err-functions-clause-does : goal.returns-in_err-functions-clause-does
returns-in_err-functions-clause-does c = words_do

pub returns-clause-gives : goal.returns-clause-gives
returns-clause-gives c = comes_to (WordsCome c.args.description.now) c.args.bytes.now c.in_ok-functions.functions c.image_read.result c.in_ok-functions.ensures.reads (rw c.as_slice.ensures.value at c.image_read.ensures)

pub returns-clause-one : goal.returns-clause-one
returns-clause-one c = λ forms bytes a b p q. one_image_of forms bytes a b p q

pub returns-clause-does : goal.returns-clause-does
returns-clause-does c = words_do
