use Rattle.std.proofs.Common.{◌-◌, ◌≤◌, length, arith}
use Rattle.gap_list.proofs.InPlace.{out_back}
use Rattle.gap_list.proofs.parts.out_at.Goals as goal

pub returns-else-at-before-clause-list : goal.returns-else-at-before-clause-list
returns-else-at-before-clause-list g c =
    let front = c.args.front.now in
    let back = c.args.back.now in
    let from : length front.items ≤ c.args.at = omega (arith, c.if-at-before.false, c.len-before.ensures, front.ok.0) in
    out_back front.items back.items c.remove-else-at-before.new.self.items c.args.at (c.len.result - 1 - (c.args.at - c.len-before.result)) from
    (omega (arith, c.requires, front.ok.0, back.ok.0))
    (omega (arith, c.requires, from, c.len.ensures, c.len-before.ensures, front.ok.0, back.ok.0)) c.remove-else-at-before.ensures.items
