use Rattle.std.proofs.Common.{ℕ, List, ap, ◌∙◌}
use Rattle.reg_rows.specs.Row.{has}
use Rattle.rtx_tree.proofs.MemberLaws.{has_reg-members}
use Rattle.rtx_tree.proofs.MemberOrder.{members-increasing}
use Rattle.rtx_tree.proofs.reg_set.RegSet.of_row.Goals as goal

pub invariant_of-result : goal.invariant_of-result
invariant_of-result c = members-increasing c.in_ok-copy.field-0

pub returns : goal.returns
returns c reg = has_reg-members c.in_ok-copy.field-0 reg ∙ ap (λ (row : List ℕ). has row reg) c.in_ok-copy.ensures
