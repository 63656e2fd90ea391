use Rattle.std.proofs.Common.{◌++◌, ◌-◌, arith}
use Rattle.rtl_make.specs.Made.{operations}
use Rattle.rtl_make.proofs.Turns.{operation_turn, operations_end}
use Rattle.rtl_make.proofs.pattern.push_operations.Goals as goal

pub loop-preserved : goal.loop-preserved
loop-preserved c = operation_turn c.loop.out c.push.new.self _ c.in_ok-operation.field-0 c.loop.x c.next_of-x.result c.loop.counter c.args.number (omega (arith, c.loop.auto.counter-end)) c.next_of-x.ensures c.in_ok-operation.ensures c.in_ok-push.ensures.ok c.loop.invariant

pub returns : goal.returns
returns c = operations_end c.loop.out (c.args.out.now ++ operations c.args.number c.args.number) c.loop.x (c.args.number - c.loop.counter) (omega (arith, c.loop.auto.counter-end)) c.loop.invariant
