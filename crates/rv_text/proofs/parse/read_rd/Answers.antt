use Rattle.rv_text.specs.Lines.{parts_view}
use Rattle.rv_text.proofs.Operands.{rd_sets}
use Rattle.rv_text.proofs.parse.read_rd.Goals as goal

pub returns : goal.returns
returns c = rd_sets c.args.text.now (parts_view c.args.parts) c.read_register.result _ c.read_register.ensures c.set_rd.ensures
