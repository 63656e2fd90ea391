use Rattle.std.proofs.Common.{ap, ◌∙◌}
use Rattle.rtx_tree.specs.RegSet.{members}
use Rattle.rtx_tree.proofs.MemberOrder.{members-increasing, members-nil}
use Rattle.rtx_tree.proofs.reg_set.RegSet.new.Goals as goal

pub invariant_of-result : goal.invariant_of-result
invariant_of-result c = members-increasing c.empty.result

pub returns : goal.returns
returns c = ap members c.empty.ensures ∙ members-nil
