use Rattle.std.proofs.Common.{◌≡◌, ◌++◌, drop, flat_map}
use Rattle.reload_moves.specs.Moves.{turn_moves}
use Rattle.reload_moves.proofs.moving.push_turns.Given as goal

abbrev pub invariant-loop-p : goal.invariant-loop-p
invariant-loop-p l = l.moves ++ flat_map (turn_moves l.asks l.parts) (drop l.p-index l.parts) ≡ l.fn.moves ++ flat_map (turn_moves l.asks l.parts) l.parts
