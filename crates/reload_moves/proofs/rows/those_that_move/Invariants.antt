use Rattle.std.proofs.Common.{◌≡◌, map, take}
use Rattle.reload_moves.specs.declared.fitting.Fitting.{Fitting}
use Rattle.reload_moves.specs.Moved.{moves}
use Rattle.reload_moves.proofs.rows.those_that_move.Given as goal

abbrev pub invariant-loop-f : goal.invariant-loop-f
invariant-loop-f l = l.row ≡ map (λ (f : Fitting). moves f.standing) (take l.f-index l.fits)
