use Rattle.rtlc_run.specs.Told.{DumpComes}
use Rattle.rtlc_run.proofs.Commands.{gives_text, told_is_own, told_read}
use Rattle.rtlc_run.proofs.program.dumped.Goals as goal

pub returns-clause-gives : goal.returns-clause-gives
returns-clause-gives c =
    let comes = DumpComes c.args.pass c.args.description.now c.args.bytes.now in
    gives_text c.dump_of.result comes comes (λ o own. own) c.dump_of.ensures.gives

pub returns-clause-own : goal.returns-clause-own
returns-clause-own c = told_is_own (DumpComes c.args.pass c.args.description.now c.args.bytes.now) c.dump_of.result c.dump_of.ensures.gives

pub returns-clause-read : goal.returns-clause-read
returns-clause-read c = told_read (DumpComes c.args.pass c.args.description.now c.args.bytes.now) c.dump_of.result c.dump_of.ensures.gives
