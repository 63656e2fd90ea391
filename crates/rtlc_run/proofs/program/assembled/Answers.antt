use Rattle.func_image.specs.func_text.Compile.{TextComes}
use Rattle.rtlc_run.proofs.Commands.{gives_text, told_is_own, told_read}
use Rattle.rtlc_run.proofs.program.assembled.Goals as goal

pub returns-clause-gives : goal.returns-clause-gives
returns-clause-gives c =
    let comes = TextComes c.args.description.now c.args.road c.args.bytes.now in
    gives_text c.assembly_of.result comes comes (λ o own. own) c.assembly_of.ensures.gives

pub returns-clause-own : goal.returns-clause-own
returns-clause-own c = told_is_own (TextComes c.args.description.now c.args.road c.args.bytes.now) c.assembly_of.result c.assembly_of.ensures.gives

pub returns-clause-read : goal.returns-clause-read
returns-clause-read c = told_read (TextComes c.args.description.now c.args.road c.args.bytes.now) c.assembly_of.result c.assembly_of.ensures.gives
