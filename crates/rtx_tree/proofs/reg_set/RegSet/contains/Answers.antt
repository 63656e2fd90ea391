use Rattle.std.proofs.Common.{◌∙◌}
use Rattle.rtx_tree.proofs.MemberLaws.{has_reg-view}
use Rattle.rtx_tree.proofs.reg_set.RegSet.contains.Goals as goal

pub returns-clause-has : goal.returns-clause-has
returns-clause-has c = c.contains.ensures ∙ has_reg-view _ _ _ c.self.view_is
