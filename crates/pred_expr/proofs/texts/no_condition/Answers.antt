use Rattle.std.proofs.Common.{◌∙◌}
use Rattle.pred_expr.proofs.GrammarLaws.{no_condition_is}
use Rattle.pred_expr.proofs.texts.no_condition.Goals as goal

pub returns-in-Ok : goal.returns-in-Ok
returns-in-Ok c = no_condition_is c.in-Ok.cond (rw (c.in_ok-none.ensures ∙ c.new.ensures) at c.in-Ok.ensures.answers)
