use Rattle.std.proofs.Common.{◌≡◌, ◌+◌, ◌∷◌, [], ◌++◌, length, reverse, take, drop, set, arith, refl, ap, ◌∙◌, append_assoc, length-append}
use Rattle.gap_list.proofs.GapLaws.{long_parts}
use Rattle.gap_list.proofs.InPlace.{put_less}
use Rattle.gap_list.proofs.parts.put_from.Goals as goal

pub loop-item-preserved : goal.loop-item-preserved
loop-item-preserved g c =
    let a = c.args in
    let front = a.front.now in
    let back = a.back.now in
    let l = front.items ++ reverse back.items in
    let now = c.loop-item.front.items ++ reverse c.loop-item.back.items in
    let left = c.pop.new.self in
    let item = c.in-Some.item in
    let done = c.loop-item.invariant.list.0 in
    let split = c.loop-item.invariant.list.1 in
    let was = c.loop-item.invariant.list.2 in
    let rest = drop (a.first + c.len.result) l in
    let long = long_parts front.items back.items l front.len back.len (front.len + back.len) refl front.ok.0 back.ok.0 refl in
    let count : length c.loop-item.left ≡ length left + 1 = ap length c.in-Some.ensures ∙ length-append left (item ∷ []) in
    record {
      list = (
        item ∷ done,
        split ∙ (ap (λ k. k ++ done) c.in-Some.ensures ∙ append_assoc left (item ∷ []) done),
        put_less l now (c.put_at.new.front.items ++ reverse c.put_at.new.back.items) done rest (a.first + length left) item
            (omega (arith, c.loop-item.invariant.room, count, long))
            (was ∙ ap (λ n. take n l ++ (done ++ rest)) (omega (arith, count)))
            (c.put_at.ensures.list ∙ ap (λ n. set now (a.first + n) item) c.len-in-Some.ensures),
      );
      long = omega (arith, c.loop-item.invariant.long, c.put_at.ensures.long);
      room = omega (arith, c.loop-item.invariant.room, count);
      end = c.loop-item.invariant.end;
    }
