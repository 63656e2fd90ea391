use Rattle.std.proofs.Common.{refl}
use Rattle.rtlc_words.specs.declared.command.Command.TheVariants as commands
use Rattle.rtlc_run.specs.Answer.{ReadFails}
use Rattle.rtlc_run.proofs.program.produced.Goals as goal

pub returns-in-Over-clause-gives : goal.returns-in-Over-clause-gives
returns-in-Over-clause-gives g c = λ known agrees. rw c.in-Over.is (c.made_by.ensures.gives known agrees)

pub returns-in-Over-clause-asked : goal.returns-in-Over-clause-asked
returns-in-Over-clause-asked g c = λ known agrees. rw c.in-Over.is (c.made_by.ensures.asked known agrees)

pub returns-in-Over-clause-usage : goal.returns-in-Over-clause-usage
returns-in-Over-clause-usage g c = rw c.in-Over.is c.made_by.ensures.usage

pub returns-in-Over-clause-faulted : goal.returns-in-Over-clause-faulted
returns-in-Over-clause-faulted g c = λ read known agrees. rw c.in-Over.is (c.made_by.ensures.faulted read known agrees)

pub returns-in-Plain-clause-gives : goal.returns-in-Plain-clause-gives
returns-in-Plain-clause-gives g c = λ known agrees. rw c.in-Plain.is (c.told_plain.ensures.gives known)

pub returns-in-Plain-clause-faulted : goal.returns-in-Plain-clause-faulted
returns-in-Plain-clause-faulted g c = λ read known agrees. rw c.in-Plain.is (ReadFails.of_plain (c.told_plain.ensures.fault read) refl)

pub returns-in-Listed-clause-gives : goal.returns-in-Listed-clause-gives
returns-in-Listed-clause-gives g c = λ known agrees. rw c.in-Listed.is (c.listed.ensures.gives known agrees (g.S.Source.left c.args.input.now))

pub returns-in-Listed-clause-asked : goal.returns-in-Listed-clause-asked
returns-in-Listed-clause-asked g c = λ known agrees. rw c.in-Listed.is (c.listed.ensures.asked known agrees)

pub returns-in-Listed-clause-faulted : goal.returns-in-Listed-clause-faulted
returns-in-Listed-clause-faulted g c = λ read known agrees. rw c.in-Listed.is (ReadFails.of_files (commands.Listed c.in-Listed.description) refl (c.listed.ensures.faulted read known agrees) (c.listed.ensures.fault read) refl)

pub returns-in-Made-clause-gives : goal.returns-in-Made-clause-gives
returns-in-Made-clause-gives g c = λ known agrees. rw c.in-Made.is (c.generated.ensures.gives known agrees (g.S.Source.left c.args.input.now))

pub returns-in-Made-clause-asked : goal.returns-in-Made-clause-asked
returns-in-Made-clause-asked g c = λ known agrees. rw c.in-Made.is (c.generated.ensures.asked known agrees)

pub returns-in-Made-clause-faulted : goal.returns-in-Made-clause-faulted
returns-in-Made-clause-faulted g c = λ read known agrees.
    rw c.in-Made.is (ReadFails.of_files (commands.Made c.in-Made.description c.in-Made.number) refl (c.generated.ensures.faulted read known agrees) (c.generated.ensures.fault read) refl)
