use Rattle.std.proofs.Common.{◌≡◌, drop}
use Rattle.reload_moves.specs.Moved.{link, end_of}
use Rattle.reload_moves.proofs.links.end_of.Given as goal

abbrev pub invariant-loop-f : goal.invariant-loop-f
invariant-loop-f l = end_of (link l.fits l.moved) (drop l.f-index l.fits) l.at ≡ end_of (link l.fits l.moved) l.fits l.place
