use Rattle.lower_insn.proofs.One.{insn_one}
use Rattle.lower_insn.proofs.insn.lowered.Goals as goal

pub returns-clause-one : goal.returns-clause-one
returns-clause-one c = insn_one
