use Rattle.std.proofs.Common.{◌++◌, ◌-◌, arith}
use Rattle.code_eval.specs.Start.{zeros}
use Rattle.code_eval.proofs.Zeros.{zeros_turn, zeros_end}
use Rattle.code_eval.proofs.start.push_zeros.Goals as goal

pub loop-place-preserved : goal.loop-place-preserved
loop-place-preserved c = zeros_turn c.loop-place.bytes.items c.push.new.self.items _ c.args.address c.loop-place.place c.args.count (omega arith) c.in_ok-push.ensures.items c.loop-place.invariant

pub returns : goal.returns
returns c = zeros_end c.loop-place.bytes.items (c.args.bytes.now.items ++ zeros c.args.address c.args.count) _ (c.args.count - c.loop-place.place) (omega arith) c.loop-place.invariant
