use Rattle.std.proofs.Common.{subst}
use Rattle.peep2.specs.machine.Steps.{FirstTold}
use Rattle.peep2.proofs.Places.{stays}
use Rattle.peep2.proofs.pass.cover_place.Goals as goal

pub returns-in_ok-behind-in-None : goal.returns-in_ok-behind-in-None
returns-in_ok-behind-in-None c =
    let a = c.args in
    stays a.desc.now a.chain.now a.place c.first_rewrite.new.chain c.in_ok-behind-in-None.field-0 c.requires
    (subst (FirstTold a.desc.now a.chain.now a.place) c.in-None.is c.in_ok-found.ensures.told) c.first_rewrite.ensures.same c.in_ok-behind-in-None.ensures
