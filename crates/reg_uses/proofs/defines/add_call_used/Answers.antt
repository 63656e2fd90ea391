use Rattle.rtx_tree.specs.Registers.{is_call_used}
use Rattle.reg_uses.proofs.JoinLaws.{below_joined}
use Rattle.reg_uses.proofs.defines.add_call_used.Goals as goal

pub loop-reg-preserved : goal.loop-reg-preserved
loop-reg-preserved c other = below_joined other c.loop-reg.reg _ (is_call_used other) _ _ (c.loop-reg.invariant other) (c.in_ok-add_if_call_used.ensures other)
