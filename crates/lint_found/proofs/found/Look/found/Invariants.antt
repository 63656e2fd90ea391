use Rattle.lint_found.proofs.FoundLaws.{FormsContinue}
use Rattle.lint_found.proofs.found.Look.found.Given as goal

abbrev pub invariant-loop-at : goal.invariant-loop-at
invariant-loop-at l = FormsContinue l.self.description.now l.at l.found
