use Rattle.std.proofs.Common.{ℕ, List, ap, ◌∙◌}
use Rattle.reg_rows.specs.Row.{lists}
use Rattle.assign.proofs.assigned.named_row.Goals as goal

pub returns-clause-each : goal.returns-clause-each
returns-clause-each c reg = c.in_ok-row.ensures.each reg ∙ (ap (λ (regs : List ℕ). lists regs reg) c.as_slice-2.ensures.value ∙ c.in_ok-regs.ensures reg)
