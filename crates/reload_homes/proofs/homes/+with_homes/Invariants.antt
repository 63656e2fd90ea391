use Rattle.std.proofs.Common.{◌≡◌, map, take}
use Rattle.reload_homes.specs.Homes.{homed}
use Rattle.reload_homes.proofs.homes.+with_homes.Given as goal

abbrev pub invariant-loop-kid : goal.invariant-loop-kid
invariant-loop-kid l = l.kids ≡ map (homed l.homes l.layout) (take l.kid-index l.kid-items)
