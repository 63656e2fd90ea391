use Rattle.std.proofs.Common.{◌-◌}
use Rattle.md_desc.specs.md_attr.Alternatives.{alternatives_of}
use Rattle.lint_found.proofs.FoundLaws.{Continues}
use Rattle.lint_found.proofs.found.Look.push_alternatives.Given as goal

abbrev pub invariant-loop-found : goal.invariant-loop-found
invariant-loop-found l = Continues l.self.description.now l.form l.fn.found l.alternative l.found

abbrev pub decreases-loop-found : goal.decreases-loop-found
decreases-loop-found l = alternatives_of l.self.description.now l.form - l.alternative
