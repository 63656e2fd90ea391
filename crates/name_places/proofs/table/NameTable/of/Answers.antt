use Rattle.std.proofs.Common.{ap, ◌∙◌, position}
use Rattle.std.specs.Str.{bytes_eq}
use Rattle.name_places.proofs.table.NameTable.of.Goals as goal

pub invariant_of-result : goal.invariant_of-result
invariant_of-result g c = λ name. c.in_ok-places.ensures name ∙ ap (position (λ d. bytes_eq (g.D.Named.name d) name)) c.as_slice.ensures.value
