use Rattle.std.proofs.Common.{◌++◌, reverse, ap, ◌∙◌}
use Rattle.gap_list.proofs.GapLaws.{turned}
use Rattle.gap_list.proofs.parts.shift.Goals as goal

pub returns-in_ok-reserve-clause-same : goal.returns-in_ok-reserve-clause-same
returns-in_ok-reserve-clause-same g c =
    turned c.pour.new.from.items c.pour.new.to.items c.args.front.now.items c.args.back.now.items
    (c.pour.ensures.same ∙ ap (λ l. l ++ reverse c.args.front.now.items) c.reserve.ensures.items)
