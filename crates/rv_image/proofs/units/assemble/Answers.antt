-- The image by the layouts is the image, or it is too long.
use Rattle.rv_image.proofs.Laid.{too_long, image_is}
use Rattle.rv_image.proofs.units.assemble.Goals as goal

pub returns-then-size-gt-MOST_IMAGE-clause-gives : goal.returns-then-size-gt-MOST_IMAGE-clause-gives
returns-then-size-gt-MOST_IMAGE-clause-gives c =
    too_long c.args.units.now c.in_ok-layouts.layouts c.as_slice.result.now c.in_ok-size.size c.in_ok-layouts.ensures c.as_slice.ensures.value c.in_ok-size.ensures c.if-size-gt-MOST_IMAGE.true

pub returns-clause-gives : goal.returns-clause-gives
returns-clause-gives c =
    image_is c.args.units.now c.in_ok-layouts.layouts c.as_slice.result.now c.as_slice-2.result.now c.in_ok-size.size c.in_ok-image.image c.in_ok-layouts.ensures c.as_slice.ensures.value c.in_ok-size.ensures c.if-size-gt-MOST_IMAGE.false c.as_slice-2.ensures.value c.in_ok-image.ensures
