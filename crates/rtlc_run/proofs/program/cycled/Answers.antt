use Rattle.rtlc_run.specs.Told.{CyclesCome}
use Rattle.rtlc_run.proofs.Commands.{gives_text, told_is_own, told_read}
use Rattle.rtlc_run.proofs.program.cycled.Goals as goal

pub returns-clause-gives : goal.returns-clause-gives
returns-clause-gives c =
    let comes = CyclesCome c.args.description.now c.args.bytes.now in
    gives_text c.cycles_of.result comes comes (λ o own. own) c.cycles_of.ensures.gives

pub returns-clause-own : goal.returns-clause-own
returns-clause-own c = told_is_own (CyclesCome c.args.description.now c.args.bytes.now) c.cycles_of.result c.cycles_of.ensures.gives

pub returns-clause-read : goal.returns-clause-read
returns-clause-read c = told_read (CyclesCome c.args.description.now c.args.bytes.now) c.cycles_of.result c.cycles_of.ensures.gives
