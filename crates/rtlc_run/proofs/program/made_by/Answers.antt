use Rattle.std.proofs.Common.{ap, Err, inl, refl}
use Rattle.std.proofs.lemmas.Result.{err_from_is_err_and}
use Rattle.run_refusal.specs.declared.refusal.Refusal.{Refusal}
use Rattle.run_refusal.specs.declared.refusal.Refusal.TheVariants as refusal
use Rattle.rtlc_words.specs.declared.command.Command.TheVariants as commands
use Rattle.rtlc_run.specs.Answer.{OverInput, ReadFails}
use Rattle.rtlc_run.proofs.Answered.{err_back}
use Rattle.rtlc_run.proofs.Commands.{nothing_known, nothing_agrees}
use Rattle.rtlc_run.proofs.Tellings.{forms_refuse, forms_are_own}
use Rattle.rtlc_run.proofs.program.made_by.Goals as goal

pub returns-in_err-description-clause-gives : goal.returns-in_err-description-clause-gives
returns-in_err-description-clause-gives g c =
    let p = err_from_is_err_and c.from_residual.result c.from_residual.ensures.1 in
    λ known agrees. rw (p.1, p.2)
    (forms_refuse (OverInput c.args.told.now (g.S.Source.left c.args.input.now)) known _ c.in_err-description.field-0.0 (rw c.described.ensures at (c.in_err-description.ensures.gives known agrees)))

pub returns-in_err-description-clause-usage : goal.returns-in_err-description-clause-usage
returns-in_err-description-clause-usage g c =
    let p = err_from_is_err_and c.from_residual.result c.from_residual.ensures.1 in
    λ is. absurd ((forms_are_own nothing_known c.described.result.now c.in_err-description.field-0.0 (c.in_err-description.ensures.gives nothing_known (nothing_agrees (g.F.Files.holds c.args.files.now)))).0
    (ap (λ (e : Refusal). Err e) (err_back c.from_residual.result p.0 c.in_err-description.field-0.0 refusal.Usage p.1 p.2 is)))

pub returns-in_err-description-clause-unwritten : goal.returns-in_err-description-clause-unwritten
returns-in_err-description-clause-unwritten g c =
    let p = err_from_is_err_and c.from_residual.result c.from_residual.ensures.1 in
    λ is. (forms_are_own nothing_known c.described.result.now c.in_err-description.field-0.0 (c.in_err-description.ensures.gives nothing_known (nothing_agrees (g.F.Files.holds c.args.files.now)))).1
    (ap (λ (e : Refusal). Err e) (err_back c.from_residual.result p.0 c.in_err-description.field-0.0 refusal.WriteFault p.1 p.2 is))

pub returns-clause-gives : goal.returns-clause-gives
returns-clause-gives g c = λ known agrees. c.made_of.ensures.gives known _ (rw c.described.ensures at (c.in_ok-description.ensures.gives known agrees))

pub returns-in_err-description-clause-faulted : goal.returns-in_err-description-clause-faulted
returns-in_err-description-clause-faulted g c =
    let p = err_from_is_err_and c.from_residual.result c.from_residual.ensures.1 in
    λ read known agrees.
    let failed = ap (λ (e : Refusal). Err e) (err_back c.from_residual.result p.0 c.in_err-description.field-0.0 refusal.ReadFault p.1 p.2 read) in
    ReadFails.of_files (commands.Over c.args.name.now c.args.told.now) refl (rw c.described.ensures at (c.in_err-description.ensures.faulted failed known agrees)) (c.in_err-description.ensures.fault failed) refl

pub returns-clause-faulted : goal.returns-clause-faulted
returns-clause-faulted g c = λ read known agrees.
    ReadFails.of_input c.args.name.now c.args.told.now c.in_ok-description.description (rw c.described.ensures at (c.in_ok-description.ensures.gives known agrees)) (c.made_of.ensures.fault read) (c.in_ok-description.ensures.quiet (λ e. cc))

pub returns-clause-fault : goal.returns-clause-fault
returns-clause-fault g c = λ is. inl (c.made_of.ensures.fault is)
