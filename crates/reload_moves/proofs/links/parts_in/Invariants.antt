use Rattle.std.proofs.Common.{◌≡◌, map, take}
use Rattle.reload_moves.specs.Moved.{part_of}
use Rattle.reload_moves.proofs.links.parts_in.Given as goal

abbrev pub invariant-loop-f : goal.invariant-loop-f
invariant-loop-f l = l.parts ≡ map (part_of l.fits l.moved) (take l.f-index l.fits)
