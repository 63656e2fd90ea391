-- The places of one piece more.
use Rattle.std.proofs.Common.{◌+◌, List, ℕ, length, get_or, ◌∙◌, ap}
use Rattle.std.proofs.lemmas.List.{length_push}
use Rattle.long_branches.proofs.Places.{next_place, places_more}
use Rattle.long_branches.proofs.least.places_of.Goals as goal

pub loop-at-preserved : goal.loop-at-preserved
loop-at-preserved c =
    let pieces = c.args.pieces.now in
    let longs = c.args.longs.now in
    let here = c.loop-at.invariant in
    let next = next_place pieces longs c.loop-at.at c.loop-at.place c.in_ok-place.place c.width.result _ here.place_is c.loop-at-test.true c.in_ok-place.ensures c.width.ensures in
    record {
      place_is = next;
      has_each = ap (λ (ns : List ℕ). length ns) c.in_ok-push-2.ensures.ok ∙ (length_push c.loop-at.places c.in_ok-place.place ∙ ap (λ n. n + 1) here.has_each);
      are = λ n within. ap (λ (ns : List ℕ). get_or ns n 0) c.in_ok-push-2.ensures.ok ∙ places_more pieces longs c.loop-at.places c.loop-at.at c.in_ok-place.place here.has_each here.are next n within;
    }
