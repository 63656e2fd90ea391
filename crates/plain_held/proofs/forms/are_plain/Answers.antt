use Rattle.std.proofs.Common.{◌≡◌, sym, ◌∙◌}
use Rattle.plain_forms.specs.Forms.{plain_forms}
use Rattle.plain_held.proofs.Fronts.{parts_are, part_behind}
use Rattle.plain_held.proofs.forms.are_plain.Goals as goal

pub loop-part-init : goal.loop-part-init
loop-part-init c = (λ is. is ∙ sym parts_are, λ is. is ∙ parts_are)

pub loop-part-preserved : goal.loop-part-preserved
loop-part-preserved c =
    part_behind (c.args.entries.now ≡ plain_forms) c.all_parts-part-items.result.now c.loop-part.part-index _ c.loop-part.rest.now c.in-Some.more.now c.all_parts-part-items.ensures
    c.loop-part-test.true c.loop-part.invariant (rw c.in-Some.is at c.in_ok-more.ensures)
