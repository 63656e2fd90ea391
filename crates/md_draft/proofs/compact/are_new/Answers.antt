use Rattle.std.proofs.Common.{rules, ◌≡◌, ◌<◌, length, false, ◌∷◌, get_or}
use Rattle.std.specs.Option.{is_some}
use Rattle.name_places.specs.Places.{place_in}
use Rattle.md_draft.specs.Compact as spec
use Rattle.md_draft.proofs.Knowing.{knows_more, new_more}
use Rattle.md_draft.proofs.compact.are_new.Goals as goal

pub loop-name-preserved : goal.loop-name-preserved
loop-name-preserved c =
    let within : c.loop-name.name-index < length c.args.names.now = search rules in
    let is : c.bytes-in-loop-name.result.now ≡ get_or c.args.names.now c.loop-name.name-index c.bytes-in-loop-name.result.now = search rules in
    let none : is_some (place_in c.loop-name.places c.bytes-in-loop-name.result.now) ≡ false = search rules in (
      c.bytes-in-loop-name.result.now ∷ c.loop-name.invariant.0,
      knows_more c.loop-name.places c.put.new.self c.loop-name.invariant.0 c.bytes-in-loop-name.result.now 0 c.loop-name.invariant.1 c.in_ok-put.ensures,
      new_more c.loop-name.places c.loop-name.invariant.0 c.args.names.now c.loop-name.name-index c.bytes-in-loop-name.result.now (spec.are_new (spec.given_names c.args.given.now) c.args.names.now) within is c.loop-name.invariant.1 c.loop-name.invariant.2 none,
    )
