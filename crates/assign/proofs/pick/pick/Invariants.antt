use Rattle.std.proofs.Common.{◌≡◌, vec_len, take}
use Rattle.assign.specs.Homes.{pseudos}
use Rattle.assign.specs.machine.Picked.{beside, AreAlike, AreBlocked, IsPicked}
use Rattle.assign.proofs.pick.pick.Given as goal

abbrev pub invariant-loop-pseudo : goal.invariant-loop-pseudo
invariant-loop-pseudo l = record {
  long : vec_len l.blocked ≡ 64;
  alike : AreAlike l.rows l.blocked.items;
  blocked : AreBlocked l.rows l.homes l.blocked.items;
  pseudos : pseudos l.homes ≡ take l.pseudo-index l.pseudos;
  picked : IsPicked (beside l.rows) l.order l.homes;
}
