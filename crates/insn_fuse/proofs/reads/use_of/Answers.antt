use Rattle.std.proofs.Common.{sym, ◌∙◌}
use Rattle.insn_fuse.proofs.Standing.{popped}
use Rattle.insn_fuse.proofs.reads.use_of.Goals as goal

pub returns-then-len-eq1-clause-there : goal.returns-then-len-eq1-clause-there
returns-then-len-eq1-clause-there c =
    popped c.args.reg c.args.pattern.now c.in_ok-paths.paths c.pop.new.self c.pop.result c.in_ok-paths.ensures (sym c.len.ensures ∙ c.if-len-eq1.true) c.pop.ensures
