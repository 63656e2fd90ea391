use Rattle.std.proofs.Common.{rules}
use Rattle.bits64.proofs.Quotients.{overflow_is}
use Rattle.bits64.proofs.div.Goals as goal

pub returns-in-0-clause-overflow : goal.returns-in-0-clause-overflow
returns-in-0-clause-overflow c = overflow_is c.args.w c.args.a c.args.b c.all_ones.result (search rules)

pub returns-in_default-clause-overflow : goal.returns-in_default-clause-overflow
returns-in_default-clause-overflow c = overflow_is c.args.w c.args.a c.args.b c.quotient.result (search rules)
