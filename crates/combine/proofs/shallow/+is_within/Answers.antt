use Rattle.std.proofs.Common.{arith}
use Rattle.combine.proofs.Depth.{none_within, whole_within}
use Rattle.combine.proofs.shallow.+is_within.Goals as goal

pub returns-then-most-eq0 : goal.returns-then-most-eq0
returns-then-most-eq0 t c = none_within c.args.x.now c.args.most c.if-most-eq0.true

pub loop-kid-init : goal.loop-kid-init
loop-kid-init t c = whole_within c.args.x.now c.as_slice-kid-items.result.now c.args.most c.as_slice-kid-items.ensures.value (omega (arith, c.if-most-eq0.false))
