use Rattle.live_chain.proofs.CountLaws.{count_in_window}
use Rattle.live_chain.proofs.numbers.count_around.Goals as goal

pub returns : goal.returns
returns c =
    let a = c.args in
    λ xs first end order is_window is_all.
    count_in_window xs a.old.now a.new.now first end a.all c.instruction_count.result c.instruction_count-2.result c.count_after.result order is_window
    is_all c.instruction_count.ensures c.instruction_count-2.ensures c.count_after.ensures
