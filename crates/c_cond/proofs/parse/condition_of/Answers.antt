use Rattle.c_cond.proofs.Answered.{is_condition}
use Rattle.c_cond.proofs.Outside.{refused_condition}
use Rattle.c_cond.proofs.parse.condition_of.Goals as goal

pub invariant_of-result : goal.invariant_of-result
invariant_of-result c = (is_condition _ _ _ _ c.in-Ok.ensures).whole

pub returns-in-Ok : goal.returns-in-Ok
returns-in-Ok c = (is_condition _ _ _ _ c.in-Ok.ensures).is

pub returns-in-Err-Outside : goal.returns-in-Err-Outside
returns-in-Err-Outside c = refused_condition _ _ _ _ c.outside.ensures (rw c.in-Err-Outside.field-0-is at c.in-Err-Outside.ensures)
