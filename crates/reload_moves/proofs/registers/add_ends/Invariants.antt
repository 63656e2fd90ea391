use Rattle.std.proofs.Common.{◌≡◌, drop}
use Rattle.reload_moves.specs.Registers.{with_ends}
use Rattle.reload_moves.proofs.registers.add_ends.Given as goal

abbrev pub invariant-loop-p : goal.invariant-loop-p
invariant-loop-p l = with_ends l.asks (drop l.p-index l.parts) ≡ with_ends l.fn.asks l.parts
