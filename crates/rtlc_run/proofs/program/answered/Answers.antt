use Rattle.std.proofs.Common.{Option, sym, subst, ◌∙◌}
use Rattle.md_source.specs.Asked.{GrewBy}
use Rattle.rtlc_words.specs.declared.command.Command.{Command}
use Rattle.rtlc_words.specs.Words.{command_of}
use Rattle.rtlc_run.specs.Answer.{Answers, MayBeAsked}
use Rattle.rtlc_words.specs.Words.{words_of}
use Rattle.rtlc_run.proofs.Commands.{nothing_asked, words_produced, words_fail}
use Rattle.rtlc_run.proofs.program.answered.Goals as goal

pub returns-in_err-command-clause-asked : goal.returns-in_err-command-clause-asked
returns-in_err-command-clause-asked g c = λ known agrees. nothing_asked known (command_of (words_of c.args.words.now)) (g.F.Files.asked c.args.files.now)

pub returns-in-Some-clause-gives : goal.returns-in-Some-clause-gives
returns-in-Some-clause-gives g c = λ known agrees.
    words_produced (words_of c.args.words.now) known (g.S.Source.left c.args.input.now) c.in-Some.command c.produced.result (sym c.in_ok-command.ensures ∙ c.in-Some.is) (c.produced.ensures.gives known agrees)

pub returns-in-None-clause-gives : goal.returns-in-None-clause-gives
returns-in-None-clause-gives g c = λ known agrees. Answers.usage (sym c.in_ok-command.ensures ∙ c.in-None.is)

pub returns-in-Some-clause-asked : goal.returns-in-Some-clause-asked
returns-in-Some-clause-asked g c = λ known agrees.
    subst (λ (o : Option Command). GrewBy (MayBeAsked known o) (g.F.Files.asked c.args.files.now) (g.F.Files.asked c.produced.new.files)) (sym (sym c.in_ok-command.ensures ∙ c.in-Some.is)) (c.produced.ensures.asked known agrees)

pub returns-in-Some-clause-faulted : goal.returns-in-Some-clause-faulted
returns-in-Some-clause-faulted g c = λ read known agrees.
    words_fail (words_of c.args.words.now) known (g.F.Files.fault_count c.args.files.now) (g.F.Files.fault_count c.produced.new.files) (g.S.Source.fault_count c.args.input.now) (g.S.Source.fault_count c.produced.new.input)
    (g.F.Files.asked c.args.files.now) (g.F.Files.asked c.produced.new.files) c.in-Some.command (sym c.in_ok-command.ensures ∙ c.in-Some.is) (c.produced.ensures.faulted read known agrees)
