use Rattle.std.proofs.lemmas.Result.{err_from_is_err_and}
use Rattle.rtlc_run.proofs.Commands.{unread_is_own}
use Rattle.rtlc_run.proofs.Tellings.{plain_unread, plain_told}
use Rattle.rtlc_run.proofs.program.told_plain.Goals as goal

pub returns-in_err-bytes-clause-gives : goal.returns-in_err-bytes-clause-gives
returns-in_err-bytes-clause-gives g c =
    let p = err_from_is_err_and c.from_residual.result c.from_residual.ensures.1 in
    λ known. rw (p.1, p.2) (plain_unread (g.S.Source.left c.args.input.now) c.in_err-bytes.field-0.0 c.in_err-bytes.ensures.cause)

pub returns-in_err-bytes-clause-own : goal.returns-in_err-bytes-clause-own
returns-in_err-bytes-clause-own g c =
    let p = err_from_is_err_and c.from_residual.result c.from_residual.ensures.1 in
    rw (p.1, p.2) (unread_is_own (g.S.Source.left c.args.input.now) c.in_err-bytes.field-0.0 c.in_err-bytes.ensures.cause)

pub returns-clause-gives : goal.returns-clause-gives
returns-clause-gives g c = λ known.
    plain_told (g.S.Source.left c.args.input.now) (g.S.Source.left c.input_bytes.new.input) c.in_ok-bytes.bytes.items c.plain_lines.result c.in_ok-bytes.ensures.all (rw c.deref.ensures.value at c.plain_lines.ensures.gives)
