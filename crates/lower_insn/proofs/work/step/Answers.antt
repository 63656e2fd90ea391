use Rattle.lower_insn.proofs.Steps.{done_so}
use Rattle.lower_insn.proofs.work.step.Goals as goal

pub returns-in-None : goal.returns-in-None
returns-in-None c = done_so c.args.desc.now c.args.uids c.args.work c.in-None.ensures.0
