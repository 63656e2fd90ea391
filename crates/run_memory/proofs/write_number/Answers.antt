use Rattle.std.proofs.Common.{arith}
use Rattle.run_memory.proofs.Numbers.{with_number_turn}
use Rattle.run_memory.proofs.write_number.Goals as goal

pub loop-place-preserved : goal.loop-place-preserved
loop-place-preserved c = with_number_turn c.loop-place.memory c.set_byte.new.self _ c.args.address c.loop-place.place c.args.count c.loop-place.rest (omega arith) c.set_byte.ensures.bytes c.loop-place.invariant
