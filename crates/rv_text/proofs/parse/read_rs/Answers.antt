use Rattle.rv_text.specs.Lines.{parts_view}
use Rattle.rv_text.proofs.Operands.{rs_sets}
use Rattle.rv_text.proofs.parse.read_rs.Goals as goal

pub returns : goal.returns
returns c = rs_sets c.args.text.now (parts_view c.args.parts) c.read_register.result _ c.read_register.ensures c.set_rs.ensures
