use Rattle.std.proofs.Common.{sym, ap, ◌∙◌, slice_get}
use Rattle.std.specs.Str.{bytes_eq}
use Rattle.name_places.proofs.FirstNames.{find_at_place, find_nowhere, given}
use Rattle.name_places.proofs.table.NameTable.first.Goals as goal

pub returns-in-Some : goal.returns-in-Some
returns-in-Some g c =
    given c.get.result c.as_slice.result.now c.in-Some.at c.get.ensures.lookup.3 ∙ ap (λ ds. slice_get ds c.in-Some.at) c.as_slice.ensures
    ∙ sym (find_at_place (λ d. bytes_eq (g.D.Named.name d) c.args.name.now) c.args.self.now c.in-Some.at (sym c.place_of.ensures ∙ c.in-Some.is))

pub returns-in-None : goal.returns-in-None
returns-in-None g c = sym (find_nowhere (λ d. bytes_eq (g.D.Named.name d) c.args.name.now) c.args.self.now (sym c.place_of.ensures ∙ c.in-None.is))
