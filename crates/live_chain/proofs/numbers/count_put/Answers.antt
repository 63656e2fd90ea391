use Rattle.std.proofs.Common.{refl, rules}
use Rattle.rtl_chain.specs.Counts.{is_instruction}
use Rattle.live_chain.proofs.CountLaws.{count_known}
use Rattle.live_chain.proofs.numbers.count_put.Goals as goal

pub returns : goal.returns
returns c = λ xs first end order window known.
    count_known is_instruction xs xs c.in_ok-old.old.now c.args.new.now c.args.new.now _ first end c.instruction_count.result c.instruction_count-2.result
    c.args.count c.count_after.result order refl (search rules) refl refl c.instruction_count.ensures c.instruction_count-2.ensures known c.count_after.ensures
