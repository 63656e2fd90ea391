use Rattle.std.proofs.Common.{ap, Err}
use Rattle.std.proofs.lemmas.Result.{err_from_is_err_and}
use Rattle.rtlc_words.specs.Words.{words_of}
use Rattle.run_refusal.specs.declared.refusal.Refusal.{Refusal}
use Rattle.run_refusal.specs.declared.refusal.Refusal.TheVariants as refusal
use Rattle.rtlc_run.proofs.Answered.{err_on, err_back}
use Rattle.rtlc_run.proofs.Commands.{refused_has_cause}
use Rattle.rtlc_run.proofs.program.attempt.Goals as goal

pub returns-in_err-text-clause-cause : goal.returns-in_err-text-clause-cause
returns-in_err-text-clause-cause g c =
    let p = err_from_is_err_and c.from_residual.result c.from_residual.ensures.1 in
    λ known agrees. rw (p.1, p.2) (refused_has_cause (words_of c.args.words.now) known (g.S.Source.left c.args.input.now) c.in_err-text.field-0.0 (c.in_err-text.ensures.gives known agrees))

pub returns-in-Ok-clause-done : goal.returns-in-Ok-clause-done
returns-in-Ok-clause-done g c = λ known agrees. (c.in_ok-text.text.items, c.in_ok-text.ensures.gives known agrees, rw c.deref.ensures.value at c.in-Ok.ensures.ok)

pub returns-clause-front : goal.returns-clause-front
returns-clause-front g c = λ h known agrees. (c.in_ok-text.text.items, c.in_ok-text.ensures.gives known agrees, rw c.deref.ensures.value at c.in-Err.ensures.err)

pub returns-in_err-text-clause-calm : goal.returns-in_err-text-clause-calm
returns-in_err-text-clause-calm g c =
    let p = err_from_is_err_and c.from_residual.result c.from_residual.ensures.1 in
    λ other. c.in_err-text.ensures.calm (λ is. other (err_on c.from_residual.result p.0 c.in_err-text.field-0.0 refusal.ReadFault p.1 p.2 is))

pub returns-in_err-text-clause-quiet : goal.returns-in_err-text-clause-quiet
returns-in_err-text-clause-quiet g c =
    let p = err_from_is_err_and c.from_residual.result c.from_residual.ensures.1 in
    λ other. c.in_err-text.ensures.quiet (λ is. other (err_on c.from_residual.result p.0 c.in_err-text.field-0.0 refusal.ReadFault p.1 p.2 is))

pub returns-in_err-text-clause-faulted : goal.returns-in_err-text-clause-faulted
returns-in_err-text-clause-faulted g c =
    let p = err_from_is_err_and c.from_residual.result c.from_residual.ensures.1 in
    λ read. c.in_err-text.ensures.faulted (ap (λ (e : Refusal). Err e) (err_back c.from_residual.result p.0 c.in_err-text.field-0.0 refusal.ReadFault p.1 p.2 read))
