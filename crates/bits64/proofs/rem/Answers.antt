use Rattle.std.proofs.Common.{rules}
use Rattle.bits64.proofs.Quotients.{dividend_is}
use Rattle.bits64.proofs.rem.Goals as goal

pub returns-in-0-clause-dividend : goal.returns-in-0-clause-dividend
returns-in-0-clause-dividend c = dividend_is c.args.w c.args.a c.args.b c.trunc-in-0.result (search rules)

pub returns-in_default-clause-dividend : goal.returns-in_default-clause-dividend
returns-in_default-clause-dividend c = dividend_is c.args.w c.args.a c.args.b c.remainder.result (search rules)
