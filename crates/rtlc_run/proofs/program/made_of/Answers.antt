use Rattle.std.proofs.lemmas.Result.{err_from_is_err_and}
use Rattle.rtlc_run.proofs.Tellings.{unread, input_told, misused}
use Rattle.rtlc_run.proofs.program.made_of.Goals as goal

pub returns-in_err-bytes-clause-gives : goal.returns-in_err-bytes-clause-gives
returns-in_err-bytes-clause-gives g c =
    let p = err_from_is_err_and c.from_residual.result c.from_residual.ensures.1 in
    λ known name come. rw (p.1, p.2) (unread c.args.told.now known (g.S.Source.left c.args.input.now) name c.args.description.now c.in_err-bytes.field-0.0 come c.in_err-bytes.ensures.cause)

pub returns-clause-gives : goal.returns-clause-gives
returns-clause-gives g c = λ known name come.
    input_told c.args.told.now known (g.S.Source.left c.args.input.now) (g.S.Source.left c.input_bytes.new.input) name c.args.description.now c.in_ok-bytes.bytes.items c.made.result come c.in_ok-bytes.ensures.all
    (rw c.deref.ensures.value at c.made.ensures.gives)

pub returns-clause-usage : goal.returns-clause-usage
returns-clause-usage g c = λ is.
    misused c.args.told.now (g.S.Source.left c.args.input.now) (g.S.Source.left c.input_bytes.new.input) c.in_ok-bytes.bytes.items c.in_ok-bytes.ensures.all (rw c.deref.ensures.value at (c.made.ensures.usage is))
