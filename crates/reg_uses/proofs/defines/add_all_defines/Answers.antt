use Rattle.std.proofs.Common.{arith}
use Rattle.reg_uses.specs.Effects.{effect_defines}
use Rattle.reg_uses.proofs.JoinLaws.{any_joined}
use Rattle.reg_uses.proofs.defines.add_all_defines.Goals as goal

pub loop-x-preserved : goal.loop-x-preserved
loop-x-preserved c reg = any_joined (effect_defines reg) c.args.effects.now c.loop-x.x-index c.x-item.result _ _ _ (omega arith) c.x-item.is (c.loop-x.invariant reg) (c.in_ok-add_effect_defines.ensures reg)
