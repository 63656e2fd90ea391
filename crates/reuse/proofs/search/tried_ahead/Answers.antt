use Rattle.std.proofs.Common.{arith}
use Rattle.reuse.proofs.Next.{none_behind}
use Rattle.reuse.proofs.search.tried_ahead.Goals as goal

pub returns-then-first-firsts-clause-repeats : goal.returns-then-first-firsts-clause-repeats
returns-then-first-firsts-clause-repeats c =
    none_behind c.args.desc.now c.args.chain.now c.args.second c.args.firsts c.args.first c.requires.ahead (omega (arith, c.if-first-firsts.true))
