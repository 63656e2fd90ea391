use Rattle.rv_text.proofs.Registers.{register_found}
use Rattle.rv_text.proofs.parse.read_register.Goals as goal

pub returns : goal.returns
returns c = register_found c.args.text.now c.reg_number.result c.reg_number.ensures
