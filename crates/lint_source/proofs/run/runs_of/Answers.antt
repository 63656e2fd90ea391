use Rattle.lint_source.specs.Runs.{AreRuns}
use Rattle.lint_source.specs.machine.Steps.{AreRunsOf}
use Rattle.lint_source.proofs.RunLaws.{are_runs}
use Rattle.lint_source.proofs.StandLaws.{ok_so}
use Rattle.lint_source.proofs.run.runs_of.Goals as goal

pub returns-clause-runs : goal.returns-clause-runs
returns-clause-runs g c = λ source agrees.
    ok_so c.runs_in.result (AreRunsOf c.args.trees c.as_slice.result.now) (AreRuns source c.args.name.now c.args.trees)
    (λ runs of. are_runs source c.args.name.now c.args.trees c.in_ok-parts.parts c.as_slice.result.now runs c.as_slice.ensures.value (c.in_ok-parts.ensures.stand source agrees) of) c.runs_in.ensures.runs
