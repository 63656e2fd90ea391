use Rattle.std.proofs.Common.{◌∙◌}
use Rattle.std.proofs.lemmas.Result.{err_from_is_err_and}
use Rattle.func_image.proofs.Comes.{image_refused, image_comes}
use Rattle.law_assembly.proofs.func_text.CodeLaws.{parts_of}
use Rattle.func_image.proofs.image.image_read.Goals as goal

pub returns-in_err-assembly : goal.returns-in_err-assembly
returns-in_err-assembly c =
    let p = err_from_is_err_and c.from_residual.result c.from_residual.ensures.1 in
    rw (p.1, p.2) (image_refused c.args.description.now c.args.functions.now c.in_err-assembly.field-0.0 c.in_err-assembly.ensures)

pub units_of-requires : goal.units_of-requires
units_of-requires c = parts_of c.args.description.now c.args.functions.now c.in_ok-assembly.assembly c.in_ok-assembly.ensures

pub returns : goal.returns
returns c =
    image_comes c.args.description.now c.args.functions.now c.in_ok-assembly.assembly c.as_slice.result.now c.units_text.result c.in_ok-assembly.ensures (c.as_slice.ensures.value ∙ c.in_ok-units.ensures) c.units_text.ensures
