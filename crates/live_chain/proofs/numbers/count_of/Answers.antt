use Rattle.std.proofs.Common.{◌+◌, ◌<◌, ◌^◌, arith}
use Rattle.rtl_chain.specs.Counts.{is_instruction, instruction_count}
use Rattle.live_chain.proofs.CountLaws.{count_parts, sum_tells}
use Rattle.live_chain.proofs.numbers.count_of.Goals as goal

pub returns : goal.returns
returns c =
    let front = c.instruction_count.result in
    let back = c.instruction_count-2.result in
    let parts = count_parts is_instruction c.args.insns.now c.parts.result.0.now c.parts.result.1.now c.parts.ensures in
    sum_tells c.checked_add.result (front + back < 2 ^ 64) (front + back) (instruction_count c.args.insns.now)
    c.checked_add.ensures (omega (arith, parts, c.instruction_count.ensures, c.instruction_count-2.ensures))
