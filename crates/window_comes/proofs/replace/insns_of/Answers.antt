use Rattle.insn_replace.proofs.MadeLaws.{long_of}
use Rattle.window_comes.proofs.replace.insns_of.Goals as goal

pub returns-clause-long : goal.returns-clause-long
returns-clause-long c = long_of c.insn-last.result.now c.in-Some.uid c.args.sequence c.insns_for.result c.insns_for.ensures
