use Rattle.std.proofs.Common.{◌∙◌}
use Rattle.peep2.proofs.Scratches.{mentioned}
use Rattle.peep2.proofs.scratch.is_mentioned.Goals as goal

pub returns : goal.returns
returns c = c.stands_in.ensures ∙ mentioned c.args.reg c.args.insns.now
