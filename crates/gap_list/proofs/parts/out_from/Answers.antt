use Rattle.std.proofs.Common.{◌+◌, [], ◌++◌, reverse, take, drop, arith, refl, ap, ◌∙◌}
use Rattle.gap_list.proofs.GapLaws.{long_parts}
use Rattle.gap_list.proofs.InPlace.{out_more}
use Rattle.gap_list.proofs.parts.out_from.Goals as goal

pub loop-preserved : goal.loop-preserved
loop-preserved g c =
    let a = c.args in
    let front = a.front.now in
    let back = a.back.now in
    let l = front.items ++ reverse back.items in
    let long = long_parts front.items back.items l front.len back.len (front.len + back.len) refl front.ok.0 back.ok.0 refl in
    record {
      list = out_more l (c.loop.front.items ++ reverse c.loop.back.items) (c.out_at.new.front.items ++ reverse c.out_at.new.back.items) [] a.at a.at (a.at + c.loop.counter)
          (omega (arith, c.loop-test.true, c.loop.invariant.room, long)) (omega arith) (omega arith) c.loop.invariant.list c.out_at.ensures.list c.out_at.result ∙
          ap (λ n. take a.at l ++ drop n l) (omega arith);
      long = omega (arith, c.loop.invariant.long, c.out_at.ensures.long);
      room = c.loop.invariant.room;
    }
