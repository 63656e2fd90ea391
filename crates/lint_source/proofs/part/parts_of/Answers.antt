use Rattle.lint_source.proofs.StandLaws.{stands_from}
use Rattle.lint_source.proofs.part.parts_of.Goals as goal

pub returns-clause-stand : goal.returns-clause-stand
returns-clause-stand g c = λ source agrees. stands_from source c.args.name.now c.new-parts.result c.push_parts.new.parts c.new-parts.ensures (c.in_ok-push_parts.ensures.stand source agrees)
