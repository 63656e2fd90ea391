use Rattle.sym_lines.proofs.Labels.{stands-for}
use Rattle.sym_lines.proofs.label.label_uid.Goals as goal

pub returns-clause-label : goal.returns-clause-label
returns-clause-label c = λ uid. stands-for c.args.function c.args.symbol.now uid c.uid_in.result c.uid_in.ensures
