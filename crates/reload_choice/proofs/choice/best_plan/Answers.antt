use Rattle.std.proofs.Common.{◌∙◌}
use Rattle.reload_choice.proofs.Chosen.{chosen, none_chosen, sound_chosen}
use Rattle.reload_choice.proofs.choice.best_plan.Goals as goal

pub returns-clause-best : goal.returns-clause-best
returns-clause-best c =
    chosen c.args.desc.now c.args.form c.args.given.now c.best.result c.constraints_at.result.now c.as_slice.result.now
    (c.constraints_at.ensures, c.as_slice.ensures.value ∙ c.in_ok-formed.ensures) c.best.ensures

pub returns-clause-none : goal.returns-clause-none
returns-clause-none c =
    none_chosen c.args.desc.now c.args.form c.args.given.now c.best.result c.constraints_at.result.now c.as_slice.result.now
    (c.constraints_at.ensures, c.as_slice.ensures.value ∙ c.in_ok-formed.ensures) c.best.ensures

pub returns-clause-sound : goal.returns-clause-sound
returns-clause-sound c =
    sound_chosen c.args.desc.now c.args.form c.args.given.now c.best.result c.constraints_at.result.now c.as_slice.result.now
    (c.constraints_at.ensures, c.as_slice.ensures.value ∙ c.in_ok-formed.ensures) c.best.ensures
