use Rattle.std.proofs.Common.{◌&&◌, ap, ◌∙◌, position}
use Rattle.std.specs.Str.{bytes_eq}
use Rattle.md_iter.specs.machine.Firsts.{agree}
use Rattle.md_iter.proofs.kinded.KindedItems.of.Goals as goal

pub invariant_of-result : goal.invariant_of-result
invariant_of-result g c = λ kind name. c.in_ok-places.ensures kind name ∙ ap (position (λ d. agree (g.D.Kinded.kind d) kind && bytes_eq (g.D.Kinded.name d) name)) c.as_slice.ensures.value
