use Rattle.region_jobs.proofs.KeptLaws.{keep_dependences}
use Rattle.region_jobs.proofs.asks.asks_of.Goals as goal

pub returns-in_err-weight-clause-kept : goal.returns-in_err-weight-clause-kept
returns-in_err-weight-clause-kept c = keep_dependences

pub returns-in_err-add_ask-clause-kept : goal.returns-in_err-add_ask-clause-kept
returns-in_err-add_ask-clause-kept c = keep_dependences

pub returns-clause-kept : goal.returns-clause-kept
returns-clause-kept c = keep_dependences
