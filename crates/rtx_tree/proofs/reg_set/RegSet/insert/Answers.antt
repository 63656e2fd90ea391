use Rattle.std.proofs.Common.{ap, ◌∙◌, ◌||◌, eqb}
use Rattle.rtx_tree.proofs.MemberLaws.{has_reg-members, has_reg-view}
use Rattle.rtx_tree.proofs.MemberOrder.{members-increasing, members-same}
use Rattle.rtx_tree.proofs.Results.{on_err}
use Rattle.rtx_tree.proofs.reg_set.RegSet.insert.Goals as goal

pub invariant_of-self : goal.invariant_of-self
invariant_of-self c = members-increasing c.make_room.new.self

pub returns-in_err-make_room-clause-err : goal.returns-in_err-make_room-clause-err
returns-in_err-make_room-clause-err c = on_err _ (members-same _ _ c.make_room.ensures.same ∙ c.self.view_is)

pub invariant_of-self-2 : goal.invariant_of-self-2
invariant_of-self-2 c = members-increasing c.insert.new.self

pub returns-clause-ok : goal.returns-clause-ok
returns-clause-ok c other =
    has_reg-members c.insert.new.self other ∙ (c.insert.ensures.each other ∙ ap (λ b. b || eqb other c.args.reg) (c.make_room.ensures.same other ∙ has_reg-view _ _ _ c.self.view_is))
