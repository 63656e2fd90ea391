use Rattle.std.proofs.Common.{◌∙◌}
use Rattle.pred_expr.proofs.GrammarLaws.{no_statements_is}
use Rattle.pred_expr.proofs.texts.no_statements.Goals as goal

pub returns-in-Ok : goal.returns-in-Ok
returns-in-Ok c = no_statements_is c.in-Ok.prep (rw (c.in_ok-none.ensures ∙ c.new.ensures) at c.in-Ok.ensures.answers)
