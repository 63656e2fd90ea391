use Rattle.c_cond.proofs.Answered.{one_condition}
use Rattle.c_cond.proofs.Outside.{one_place}
use Rattle.c_cond.proofs.parse.parse_cond.Goals as goal

pub returns-clause-one : goal.returns-clause-one
returns-clause-one c = one_condition _ _ _

pub returns-clause-one_place : goal.returns-clause-one_place
returns-clause-one_place c = one_place _ _
