use Rattle.lint_told.proofs.ToldLaws.{Continues}
use Rattle.lint_told.proofs.told.Place.found.Given as goal

abbrev pub invariant-loop-at : goal.invariant-loop-at
invariant-loop-at l = Continues l.self.description.now l.self.form l.self.alternative l.instances l.is_reached l.at
