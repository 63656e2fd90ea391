use Rattle.lint_beside.proofs.BesideLaws.{Goes}
use Rattle.lint_beside.proofs.beside.Look.all.Given as goal

abbrev pub invariant-loop-at : goal.invariant-loop-at
invariant-loop-at l = Goes l.self.description.now l.self.tested.now l.found l.at l.all
