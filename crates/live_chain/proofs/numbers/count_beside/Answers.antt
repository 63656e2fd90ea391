use Rattle.live_chain.proofs.CountLaws.{count_in_place}
use Rattle.live_chain.proofs.numbers.count_beside.Goals as goal

pub returns : goal.returns
returns c =
    let a = c.args in
    λ xs place at is_all.
    count_in_place xs c.from_ref.result.now a.new.now place a.all c.instruction_count.result c.instruction_count-2.result a.old.now c.count_after.result at
    c.from_ref.ensures.value is_all c.instruction_count.ensures c.instruction_count-2.ensures c.count_after.ensures
