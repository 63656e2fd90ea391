use Rattle.std.proofs.Common.{◌≡◌, drop}
use Rattle.reload_moves.specs.Moved.{rounds, round, moved_in}
use Rattle.reload_moves.proofs.rows.moved_in.Given as goal

abbrev pub invariant-loop-f : goal.invariant-loop-f
invariant-loop-f l = rounds (round l.fits) (drop l.f-index l.fits) l.row ≡ moved_in l.fits
