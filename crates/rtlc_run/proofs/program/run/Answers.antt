use Rattle.std.proofs.Common.{◌≡◌, ⊎_elim, sym, ap, Err}
use Rattle.run_refusal.specs.declared.refusal.Refusal.{Refusal}
use Rattle.run_refusal.specs.declared.refusal.Refusal.TheVariants as refusal
use Rattle.func_run.proofs.Law.{takes_enough}
use Rattle.func_input.proofs.One.{one_read}
use Rattle.rv_text.proofs.SpelledOnce.{spells_one}
use Rattle.func_image.proofs.func_text.Parts.{one_cut}
use Rattle.md_named.proofs.Forms.{one_answer as one_description}
use Rattle.rtlc_words.specs.Words.{command_of, words_of}
use Rattle.rtlc_run.proofs.Commands.{nothing_known, nothing_agrees, fails_spoken}
use Rattle.rtlc_run.proofs.Answered.{answered_err, err_of, told_cause, read_status, read_told}
use Rattle.rtlc_run.proofs.Runs.{one_answer, writes_text, writes_same, writes_framed, writes_words, done}
use Rattle.rtlc_run.proofs.Statuses.{status_is}
use Rattle.rtlc_run.proofs.program.run.Goals as goal

pub returns-in-Err-clause-statuses : goal.returns-in-Err-clause-statuses
returns-in-Err-clause-statuses g c = status_is c.report.ensures.told c.report.result c.report.ensures.status_is

pub returns-in-Ok-clause-one : goal.returns-in-Ok-clause-one
returns-in-Ok-clause-one g c = λ known left a b enough p q. one_answer (words_of c.args.words.now) known left a b enough p q

pub returns-in-Err-clause-one : goal.returns-in-Err-clause-one
returns-in-Err-clause-one g c = λ known left a b enough p q. one_answer (words_of c.args.words.now) known left a b enough p q

pub returns-in-Ok-clause-spelled : goal.returns-in-Ok-clause-spelled
returns-in-Ok-clause-spelled g c = λ text a b p q. spells_one text a b p q

pub returns-in-Err-clause-spelled : goal.returns-in-Err-clause-spelled
returns-in-Err-clause-spelled g c = λ text a b p q. spells_one text a b p q

pub returns-in-Ok-clause-parts : goal.returns-in-Ok-clause-parts
returns-in-Ok-clause-parts g c = λ functions text a b p q. one_cut functions text a b p q

pub returns-in-Err-clause-parts : goal.returns-in-Err-clause-parts
returns-in-Err-clause-parts g c = λ functions text a b p q. one_cut functions text a b p q

pub returns-in-Ok-clause-endless : goal.returns-in-Ok-clause-endless
returns-in-Ok-clause-endless g c = takes_enough

pub returns-in-Err-clause-endless : goal.returns-in-Err-clause-endless
returns-in-Err-clause-endless g c = takes_enough

-- what is known of the files does not matter: nothing is
pub returns-in-Ok-clause-behaves : goal.returns-in-Ok-clause-behaves
returns-in-Ok-clause-behaves g c = λ name road is zero.
    writes_same (words_of c.args.words.now) nothing_known (g.S.Source.left c.args.input.now) (g.K.Sink.taken c.args.output.now)
    (g.K.Sink.taken c.attempt.new.output) name road is (c.in-Ok.ensures.done nothing_known (nothing_agrees (g.F.Files.holds c.args.files.now)))

pub returns-in-Ok-clause-framed : goal.returns-in-Ok-clause-framed
returns-in-Ok-clause-framed g c = λ known agrees name road is zero.
    writes_framed (words_of c.args.words.now) known (g.S.Source.left c.args.input.now) (g.K.Sink.taken c.args.output.now)
    (g.K.Sink.taken c.attempt.new.output) name road is (c.in-Ok.ensures.done known agrees)

pub returns-in-Ok-clause-words : goal.returns-in-Ok-clause-words
returns-in-Ok-clause-words g c = λ name is zero.
    writes_words (words_of c.args.words.now) nothing_known (g.S.Source.left c.args.input.now) (g.K.Sink.taken c.args.output.now)
    (g.K.Sink.taken c.attempt.new.output) name is (c.in-Ok.ensures.done nothing_known (nothing_agrees (g.F.Files.holds c.args.files.now)))

pub returns-in-Ok-clause-one_input : goal.returns-in-Ok-clause-one_input
returns-in-Ok-clause-one_input g c = λ bytes a b p q. one_read bytes a b p q

pub returns-in-Err-clause-one_input : goal.returns-in-Err-clause-one_input
returns-in-Err-clause-one_input g c = λ bytes a b p q. one_read bytes a b p q

pub returns-in-Ok-clause-one_description : goal.returns-in-Ok-clause-one_description
returns-in-Ok-clause-one_description g c = λ known name a b enough p q. one_description known name a b enough p q

pub returns-in-Err-clause-one_description : goal.returns-in-Err-clause-one_description
returns-in-Err-clause-one_description g c = λ known name a b enough p q. one_description known name a b enough p q

pub returns-in-Err-clause-cause : goal.returns-in-Err-clause-cause
returns-in-Err-clause-cause g c = λ failed known agrees. (
  c.report.ensures.told,
  sym c.report.ensures.status_is,
  told_cause (words_of c.args.words.now) known (g.S.Source.left c.args.input.now) c.in-Err.refusal c.report.ensures.told c.report.ensures.which (c.in-Err.ensures.cause known agrees),
)

pub returns-in-Err-clause-told : goal.returns-in-Err-clause-told
returns-in-Err-clause-told g c = λ failed calm known agrees. (
  c.report.ensures.told,
  sym c.report.ensures.status_is,
  told_cause (words_of c.args.words.now) known (g.S.Source.left c.args.input.now) c.in-Err.refusal c.report.ensures.told c.report.ensures.which (c.in-Err.ensures.cause known agrees),
  c.report.ensures.line calm,
)

pub returns-in-Err-clause-quiet : goal.returns-in-Err-clause-quiet
returns-in-Err-clause-quiet g c = λ other. c.in-Err.ensures.quiet (λ is. other (
    read_status c.in-Err.refusal c.report.ensures.told c.report.result c.report.ensures.status_is c.report.ensures.which (err_of c.in-Err.refusal refusal.ReadFault is)))

pub returns-in-Ok-clause-means : goal.returns-in-Ok-clause-means
returns-in-Ok-clause-means g c = λ known agrees command is zero.
    writes_text (words_of c.args.words.now) known (g.S.Source.left c.args.input.now) (g.K.Sink.taken c.args.output.now) (g.K.Sink.taken c.attempt.new.output) command is (c.in-Ok.ensures.done known agrees)

pub returns-in-Err-clause-answer : goal.returns-in-Err-clause-answer
returns-in-Err-clause-answer g c = λ known agrees calm other.
    let not_read : c.in-Err.refusal ≡ refusal.ReadFault → ⊥ = λ same. ⊎_elim calm.1 calm.0 (c.in-Err.ensures.fault (ap (λ (e : Refusal). Err e) same)) in
    let not_write : c.in-Err.refusal ≡ refusal.WriteFault → ⊥ = λ same. calm.2 (c.in-Err.ensures.write (ap (λ (e : Refusal). Err e) same)) in
    answered_err (words_of c.args.words.now) known (g.S.Source.left c.args.input.now) c.in-Err.refusal c.report.result (g.K.Sink.taken c.args.output.now) (g.K.Sink.taken c.attempt.new.output) (g.E.Sink.taken c.args.errors.now) (g.E.Sink.taken c.report.new.errors)
    (g.E.Sink.fault_count c.args.errors.now) (g.E.Sink.fault_count c.report.new.errors) (c.in-Err.ensures.cause known agrees)
    not_read not_write other c.report.ensures
    (c.in-Err.ensures.nothing (λ same. not_write (err_of c.in-Err.refusal refusal.WriteFault same)))

pub returns-in-Err-clause-done : goal.returns-in-Err-clause-done
returns-in-Err-clause-done g c = λ known agrees command is calm has.
    let not_read : c.in-Err.refusal ≡ refusal.ReadFault → ⊥ = λ same. ⊎_elim calm.1 calm.0 (c.in-Err.ensures.fault (ap (λ (e : Refusal). Err e) same)) in
    let not_write : c.in-Err.refusal ≡ refusal.WriteFault → ⊥ = λ same. calm.2 (c.in-Err.ensures.write (ap (λ (e : Refusal). Err e) same)) in
    done (words_of c.args.words.now) known command (g.S.Source.left c.args.input.now) c.report.result (g.K.Sink.taken c.args.output.now) (g.K.Sink.taken c.attempt.new.output) (g.E.Sink.taken c.args.errors.now) (g.E.Sink.taken c.report.new.errors)
    (g.E.Sink.fault_count c.args.errors.now) (g.E.Sink.fault_count c.report.new.errors) is has
    (λ other. answered_err (words_of c.args.words.now) known (g.S.Source.left c.args.input.now) c.in-Err.refusal c.report.result (g.K.Sink.taken c.args.output.now) (g.K.Sink.taken c.attempt.new.output) (g.E.Sink.taken c.args.errors.now) (g.E.Sink.taken c.report.new.errors)
    (g.E.Sink.fault_count c.args.errors.now) (g.E.Sink.fault_count c.report.new.errors) (c.in-Err.ensures.cause known agrees)
    not_read not_write other c.report.ensures
    (c.in-Err.ensures.nothing (λ same. not_write (err_of c.in-Err.refusal refusal.WriteFault same))))

pub returns-in-Ok-clause-faulted : goal.returns-in-Ok-clause-faulted
returns-in-Ok-clause-faulted g c = λ six. absurd (let none : ⊥ = cc in none)

pub returns-in-Err-clause-faulted : goal.returns-in-Err-clause-faulted
returns-in-Err-clause-faulted g c = λ six. c.in-Err.ensures.faulted (
    ap (λ (e : Refusal). Err e) (read_told c.in-Err.refusal c.report.ensures.told c.report.result c.report.ensures.status_is c.report.ensures.which six))

pub returns-in-Ok-clause-command : goal.returns-in-Ok-clause-command
returns-in-Ok-clause-command g c = λ six. absurd (let none : ⊥ = cc in none)

pub returns-in-Err-clause-command : goal.returns-in-Err-clause-command
returns-in-Err-clause-command g c = λ six.
    let read = ap (λ (e : Refusal). Err e) (read_told c.in-Err.refusal c.report.ensures.told c.report.result c.report.ensures.status_is c.report.ensures.which six) in
    fails_spoken nothing_known (g.F.Files.fault_count c.args.files.now) (g.F.Files.fault_count c.attempt.new.files) (g.S.Source.fault_count c.args.input.now) (g.S.Source.fault_count c.attempt.new.input)
    (g.F.Files.asked c.args.files.now) (g.F.Files.asked c.attempt.new.files) (command_of (words_of c.args.words.now)) (c.in-Err.ensures.faulted read nothing_known (nothing_agrees (g.F.Files.holds c.args.files.now)))
