use Rattle.md_constr.specs.Inputs.{effects_of}
use Rattle.md_constr.specs.Inputs.{set_by}
use Rattle.reload_operands.proofs.NumberLaws.{has_in_all}
use Rattle.reload_operands.proofs.directions.is_output.Goals as goal

pub returns : goal.returns
returns c = has_in_all c.args.number set_by (effects_of c.args.pattern.now) c.effects_of.result.now c.any_effect_sets.result c.effects_of.ensures c.any_effect_sets.ensures
