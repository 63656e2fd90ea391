use Rattle.func_run.proofs.Law.{takes_enough}
use Rattle.func_run.proofs.Cuts.{are_cut}
use Rattle.func_run.proofs.run.run_function.Goals as goal

pub returns-in_err-state-clause-taken : goal.returns-in_err-state-clause-taken
returns-in_err-state-clause-taken c = takes_enough

pub returns-clause-taken : goal.returns-clause-taken
returns-clause-taken c = takes_enough

pub returns-in_err-state-clause-cut : goal.returns-in_err-state-clause-cut
returns-in_err-state-clause-cut c = are_cut

pub returns-clause-cut : goal.returns-clause-cut
returns-clause-cut c = are_cut
