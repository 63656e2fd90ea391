use Rattle.std.proofs.Common.{◌≤◌, ◌<◌, ap, ◌∙◌, rules, length}
use Rattle.std.specs.Str.{bytes_eq}
use Rattle.name_places.proofs.FirstNames.{position_next, position_all}
use Rattle.name_places.proofs.table.places_of.Goals as goal

pub loop-at-preserved : goal.loop-at-preserved
loop-at-preserved g c = λ name.
    let inside : c.loop-at.at < length c.args.all.now = search rules in
    position_next (λ d. bytes_eq (g.D.Named.name d) name) c.args.all.now c.loop-at.at c.index-all-at.result _ _ (bytes_eq c.name.result.now name) inside c.index-all-at.is
    (ap (λ text. bytes_eq text name) c.name.ensures) (c.loop-at.invariant name) (c.in_ok-put.ensures name)

pub returns : goal.returns
returns g c = λ name.
    let end : length c.args.all.now ≤ c.loop-at.at = search rules in
    c.loop-at.invariant name ∙ position_all (λ d. bytes_eq (g.D.Named.name d) name) c.args.all.now c.loop-at.at end
