use Rattle.std.proofs.Common.{◌∙◌}
use Rattle.rtx_tree.proofs.MemberLaws.{has_reg-view}
use Rattle.rtx_tree.proofs.reg_set.RegSet.has_number.Goals as goal

pub returns : goal.returns
returns c = c.has_number.ensures ∙ has_reg-view _ _ _ c.self.view_is
