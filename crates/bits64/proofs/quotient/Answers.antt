use Rattle.std.proofs.Common.{rules}
use Rattle.std.proofs.lemmas.Int.{to_z-of_z}
use Rattle.bits64.proofs.Quotients.{wrapped-quotient}
use Rattle.bits64.proofs.quotient.Goals as goal

pub returns : goal.returns
returns c = search (rules, to_z-of_z, wrapped-quotient)
