use Rattle.std.proofs.Common.{◌-◌, ◌≤◌, length, arith}
use Rattle.gap_list.proofs.InPlace.{put_front, put_back}
use Rattle.gap_list.proofs.parts.put_at.Goals as goal

pub returns-then-at-before-clause-list : goal.returns-then-at-before-clause-list
returns-then-at-before-clause-list g c =
    let front = c.args.front.now in
    put_front front.items c.args.back.now.items c.write.new.part.items c.args.at c.args.item
    (omega (arith, c.if-at-before.true, c.len-before.ensures, front.ok.0)) c.write.ensures.items

pub returns-else-at-before-clause-list : goal.returns-else-at-before-clause-list
returns-else-at-before-clause-list g c =
    let front = c.args.front.now in
    let back = c.args.back.now in
    let from : length front.items ≤ c.args.at = omega (arith, c.if-at-before.false, c.len-before.ensures, front.ok.0) in
    put_back front.items back.items c.write-else-at-before.new.part.items c.args.at (c.len.result - 1 - (c.args.at - c.len-before.result)) c.args.item from
    (omega (arith, c.requires, front.ok.0, back.ok.0))
    (omega (arith, c.requires, from, c.len.ensures, c.len-before.ensures, front.ok.0, back.ok.0)) c.write-else-at-before.ensures.items
