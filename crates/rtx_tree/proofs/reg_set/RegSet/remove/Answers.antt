use Rattle.std.proofs.Common.{ap, ◌∙◌, ◌&&◌, not, eqb}
use Rattle.rtx_tree.proofs.MemberLaws.{has_reg-members, has_reg-view}
use Rattle.rtx_tree.proofs.MemberOrder.{members-increasing}
use Rattle.rtx_tree.proofs.reg_set.RegSet.remove.Goals as goal

pub invariant_of-self : goal.invariant_of-self
invariant_of-self c = members-increasing c.remove.new.self

pub returns : goal.returns
returns c other =
    has_reg-members c.remove.new.self other ∙ (c.remove.ensures.each other ∙ ap (λ b. b && not (eqb other c.args.reg)) (has_reg-view _ _ _ c.self.view_is))
