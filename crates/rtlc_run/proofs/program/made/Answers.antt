use Rattle.rtlc_run.proofs.program.made.Goals as goal

pub returns-in-Words-clause-gives : goal.returns-in-Words-clause-gives
returns-in-Words-clause-gives c = rw c.in-Words.is c.imaged.ensures.gives
