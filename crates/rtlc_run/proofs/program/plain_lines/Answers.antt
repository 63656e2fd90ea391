use Rattle.func_input.specs.Input.{InputComesTo}
use Rattle.plain_text.specs.Plain.{ComeToLines}
use Rattle.rtlc_run.proofs.Commands.{gives_text, told_is_own, told_read}
use Rattle.rtlc_run.proofs.program.plain_lines.Goals as goal

pub returns-clause-gives : goal.returns-clause-gives
returns-clause-gives c =
    let comes = InputComesTo ComeToLines c.args.bytes.now in
    gives_text c.plain_of.result comes comes (λ o own. own) c.plain_of.ensures.gives

pub returns-clause-own : goal.returns-clause-own
returns-clause-own c = told_is_own (InputComesTo ComeToLines c.args.bytes.now) c.plain_of.result c.plain_of.ensures.gives

pub returns-clause-read : goal.returns-clause-read
returns-clause-read c = told_read (InputComesTo ComeToLines c.args.bytes.now) c.plain_of.result c.plain_of.ensures.gives
