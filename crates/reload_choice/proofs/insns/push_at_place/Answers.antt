use Rattle.reload_choice.proofs.Placed.{none_placed}
use Rattle.reload_choice.proofs.insns.push_at_place.Goals as goal

pub returns-in-None : goal.returns-in-None
returns-in-None c = none_placed c.args.operands.now c.args.place c.args.step c.args.insns.now c.in-None.ensures.lookup.3
