use Rattle.std.proofs.Common.{◌≡◌, map, take}
use Rattle.reload_moves.specs.Moved.{is_moved_next}
use Rattle.reload_moves.proofs.rows.round.Given as goal

abbrev pub invariant-loop-f : goal.invariant-loop-f
invariant-loop-f l = l.row ≡ map (is_moved_next l.fits l.moved) (take l.f-index l.fits)
