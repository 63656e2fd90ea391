use Rattle.func_image.specs.Image.{ImageComes}
use Rattle.rtlc_run.proofs.Commands.{gives_text, told_is_own, told_read}
use Rattle.rtlc_run.proofs.program.imaged.Goals as goal

pub returns-clause-gives : goal.returns-clause-gives
returns-clause-gives c =
    let comes = ImageComes c.args.description.now c.args.bytes.now in
    gives_text c.image_of.result comes comes (λ o own. own) c.image_of.ensures.gives

pub returns-clause-own : goal.returns-clause-own
returns-clause-own c = told_is_own (ImageComes c.args.description.now c.args.bytes.now) c.image_of.result c.image_of.ensures.gives

pub returns-clause-read : goal.returns-clause-read
returns-clause-read c = told_read (ImageComes c.args.description.now c.args.bytes.now) c.image_of.result c.image_of.ensures.gives
