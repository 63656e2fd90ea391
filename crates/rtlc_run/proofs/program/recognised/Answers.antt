use Rattle.rtlc_run.specs.Told.{RecogComes}
use Rattle.rtlc_run.proofs.Commands.{gives_text, told_is_own, told_read}
use Rattle.rtlc_run.proofs.program.recognised.Goals as goal

pub returns-clause-gives : goal.returns-clause-gives
returns-clause-gives c =
    let comes = RecogComes c.args.description.now c.args.bytes.now in
    gives_text c.recog_of.result comes comes (λ o own. own) c.recog_of.ensures.gives

pub returns-clause-own : goal.returns-clause-own
returns-clause-own c = told_is_own (RecogComes c.args.description.now c.args.bytes.now) c.recog_of.result c.recog_of.ensures.gives

pub returns-clause-read : goal.returns-clause-read
returns-clause-read c = told_read (RecogComes c.args.description.now c.args.bytes.now) c.recog_of.result c.recog_of.ensures.gives
