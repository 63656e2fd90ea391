use Rattle.md_desc.proofs.Tabled.{none_at_all}
use Rattle.md_desc.proofs.description.Description.recog.Goals as goal

pub returns-clause-none : goal.returns-clause-none
returns-clause-none c = none_at_all c.args.self.now c.args.facts.now c.args.insn.now c.first_from.result c.first_from.ensures.none
