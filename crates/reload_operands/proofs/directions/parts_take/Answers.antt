use Rattle.std.proofs.Common.{refl}
use Rattle.md_constr.specs.Inputs.{taken_in}
use Rattle.reload_operands.proofs.NumberLaws.{has_in_all}
use Rattle.reload_operands.proofs.directions.parts_take.Goals as goal

pub returns : goal.returns
returns c = has_in_all c.args.number taken_in c.args.parts.now c.args.parts.now c.any_takes.result refl c.any_takes.ensures
