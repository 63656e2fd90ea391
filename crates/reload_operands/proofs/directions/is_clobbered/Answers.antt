use Rattle.md_constr.specs.Inputs.{effects_of, clobbered_by}
use Rattle.reload_operands.proofs.NumberLaws.{has_in_all}
use Rattle.reload_operands.proofs.directions.is_clobbered.Goals as goal

pub returns : goal.returns
returns c = has_in_all c.args.number clobbered_by (effects_of c.args.pattern.now) c.effects_of.result.now c.any_effect_clobbers.result c.effects_of.ensures c.any_effect_clobbers.ensures
