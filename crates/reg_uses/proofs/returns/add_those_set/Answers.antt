use Rattle.std.proofs.Common.{arith}
use Rattle.reg_uses.specs.Uses.{function_sets}
use Rattle.reg_uses.proofs.JoinLaws.{some_joined}
use Rattle.reg_uses.proofs.returns.add_those_set.Goals as goal

pub loop-kept-preserved : goal.loop-kept-preserved
loop-kept-preserved c reg = some_joined c.args.all.now c.loop-kept.kept-index reg (function_sets c.args.f.now reg) _ _ _ (omega arith) (c.loop-kept.invariant reg) (c.in_ok-add_if_set.ensures reg)
