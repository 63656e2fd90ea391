use Rattle.std.proofs.Common.{◌≡◌, ◌++◌, drop, flat_map}
use Rattle.reload_moves.specs.Moves.{out_moves, moves_after}
use Rattle.reload_moves.proofs.moving.moves_after.Given as goal

abbrev pub invariant-loop-p : goal.invariant-loop-p
invariant-loop-p l = l.moves ++ flat_map (out_moves l.asks) (drop l.p-index l.parts) ≡ moves_after l.asks l.parts
