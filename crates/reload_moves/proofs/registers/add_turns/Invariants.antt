use Rattle.std.proofs.Common.{◌≡◌, drop}
use Rattle.reload_moves.specs.Registers.{with_turns}
use Rattle.reload_moves.proofs.registers.add_turns.Given as goal

abbrev pub invariant-loop-p : goal.invariant-loop-p
invariant-loop-p l = with_turns l.asks (drop l.p-index l.parts) ≡ with_turns l.fn.asks l.parts
