use Rattle.std.proofs.Common.{◌≤◌, ◌<◌, ◌&&◌, ap, ◌∙◌, rules, length}
use Rattle.std.specs.Str.{bytes_eq}
use Rattle.md_iter.specs.machine.Firsts.{agree}
use Rattle.name_places.proofs.FirstNames.{position_next, position_all}
use Rattle.md_iter.proofs.kinded.places_of.Goals as goal

pub loop-at-preserved : goal.loop-at-preserved
loop-at-preserved g c = λ kind name.
    let inside : c.loop-at.at < length c.args.all.now = search rules in
    position_next (λ d. agree (g.D.Kinded.kind d) kind && bytes_eq (g.D.Kinded.name d) name) c.args.all.now c.loop-at.at c.index-all-at.result _ _ (agree c.kind.result kind && bytes_eq c.name.result.now name) inside c.index-all-at.is
    (ap (λ k. agree k kind && bytes_eq c.name.result.now name) c.kind.ensures ∙ ap (λ text. agree (g.D.Kinded.kind c.index-all-at.result) kind && bytes_eq text name) c.name.ensures) (c.loop-at.invariant kind name) (c.in_ok-put.ensures kind name)

pub returns : goal.returns
returns g c = λ kind name.
    let end : length c.args.all.now ≤ c.loop-at.at = search rules in
    c.loop-at.invariant kind name ∙ position_all (λ d. agree (g.D.Kinded.kind d) kind && bytes_eq (g.D.Kinded.name d) name) c.args.all.now c.loop-at.at end
