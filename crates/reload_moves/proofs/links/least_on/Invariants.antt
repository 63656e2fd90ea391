use Rattle.std.proofs.Common.{◌≡◌, drop}
use Rattle.reload_moves.specs.Moved.{link, least_on}
use Rattle.reload_moves.proofs.links.least_on.Given as goal

abbrev pub invariant-loop-f : goal.invariant-loop-f
invariant-loop-f l = least_on (link l.fits l.moved) (drop l.f-index l.fits) l.least l.at ≡ least_on (link l.fits l.moved) l.fits l.place l.place
