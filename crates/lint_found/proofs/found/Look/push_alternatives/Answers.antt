use Rattle.lint_found.proofs.FoundLaws.{no_more}
use Rattle.lint_found.proofs.found.Look.push_alternatives.Goals as goal

pub returns : goal.returns
returns c =
    no_more c.args.self.now.description.now c.args.form c.loop-found.alternative c.args.found.now c.loop-found.found c.has_alternative.result
    c.has_alternative.ensures c.loop-found-test.false c.loop-found.invariant
