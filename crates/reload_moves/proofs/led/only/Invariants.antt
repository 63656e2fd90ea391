use Rattle.std.proofs.Common.{◌≡◌, map, take}
use Rattle.std.proofs.Common.{◌==◌}
use Rattle.reload_moves.specs.declared.fitting.Fitting.{Fitting}
use Rattle.reload_moves.proofs.led.only.Given as goal

abbrev pub invariant-loop-f : goal.invariant-loop-f
invariant-loop-f l = l.row ≡ map (λ (f : Fitting). f.place == l.place) (take l.f-index l.fits)
