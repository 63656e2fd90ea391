use Rattle.std.proofs.Common.{ap}
use Rattle.std.specs.Prelude.{Some}
use Rattle.plain_held.proofs.Tests.{some_of}
use Rattle.plain_held.proofs.test.is_asked.Goals as goal

pub returns-in-RegisterOrConstant : goal.returns-in-RegisterOrConstant
returns-in-RegisterOrConstant c = rw c.in-RegisterOrConstant.is ((λ yes. ap Some (c.has_register_or_accepted.ensures.0 yes)), (λ is. c.has_register_or_accepted.ensures.1 (some_of _ _ is)))
