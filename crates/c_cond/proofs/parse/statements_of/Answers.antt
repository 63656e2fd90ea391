use Rattle.c_cond.proofs.Answered.{is_statements}
use Rattle.c_cond.proofs.Outside.{refused_statements}
use Rattle.c_cond.proofs.parse.statements_of.Goals as goal

pub invariant_of-result : goal.invariant_of-result
invariant_of-result c = (is_statements _ _ _ _ c.in-Ok.ensures).whole.heads_are

pub returns-in-Ok : goal.returns-in-Ok
returns-in-Ok c = (is_statements _ _ _ _ c.in-Ok.ensures).is

pub returns-in-Err-Outside : goal.returns-in-Err-Outside
returns-in-Err-Outside c = refused_statements _ _ _ _ c.outside.ensures (rw c.in-Err-Outside.field-0-is at c.in-Err-Outside.ensures)
