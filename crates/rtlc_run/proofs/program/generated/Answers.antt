use Rattle.std.proofs.Common.{ap, Err}
use Rattle.std.proofs.lemmas.Result.{err_from_is_err_and}
use Rattle.run_refusal.specs.declared.refusal.Refusal.{Refusal}
use Rattle.run_refusal.specs.declared.refusal.Refusal.TheVariants as refusal
use Rattle.rtlc_run.specs.Answer.{ByForms}
use Rattle.rtlc_run.specs.Generated.{SummaryComes}
use Rattle.rtlc_run.proofs.Answered.{err_back}
use Rattle.rtlc_run.proofs.Commands.{gives_map, nothing_known, nothing_agrees}
use Rattle.rtlc_run.proofs.Tellings.{forms_refuse, forms_are_own}
use Rattle.rtlc_run.proofs.program.generated.Goals as goal

pub returns-in_err-description-clause-gives : goal.returns-in_err-description-clause-gives
returns-in_err-description-clause-gives g c =
    let p = err_from_is_err_and c.from_residual.result c.from_residual.ensures.1 in
    λ known agrees input. rw (p.1, p.2)
    (forms_refuse (SummaryComes c.args.number) known _ c.in_err-description.field-0.0 (rw c.described.ensures at (c.in_err-description.ensures.gives known agrees)))

pub returns-in_err-description-clause-own : goal.returns-in_err-description-clause-own
returns-in_err-description-clause-own g c =
    let p = err_from_is_err_and c.from_residual.result c.from_residual.ensures.1 in
    rw (p.1, p.2) (forms_are_own nothing_known c.described.result.now c.in_err-description.field-0.0 (c.in_err-description.ensures.gives nothing_known (nothing_agrees (g.F.Files.holds c.args.files.now))))

pub returns-clause-gives : goal.returns-clause-gives
returns-clause-gives g c = λ known agrees input.
    gives_map c.summary_of.result (SummaryComes c.args.number c.in_ok-description.description) _
    (λ o comes. ByForms.by_forms c.in_ok-description.description o (rw c.described.ensures at (c.in_ok-description.ensures.gives known agrees)) comes) c.summary_of.ensures.gives

pub returns-in_err-description-clause-faulted : goal.returns-in_err-description-clause-faulted
returns-in_err-description-clause-faulted g c =
    let p = err_from_is_err_and c.from_residual.result c.from_residual.ensures.1 in
    λ read known agrees.
    let failed = ap (λ (e : Refusal). Err e) (err_back c.from_residual.result p.0 c.in_err-description.field-0.0 refusal.ReadFault p.1 p.2 read) in
    rw c.described.ensures at (c.in_err-description.ensures.faulted failed known agrees)

pub returns-clause-faulted : goal.returns-clause-faulted
returns-clause-faulted g c = λ read known agrees. absurd (c.summary_of.ensures.read read)

pub returns-clause-fault : goal.returns-clause-fault
returns-clause-fault g c = λ read. absurd (c.summary_of.ensures.read read)
