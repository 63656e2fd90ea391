use Rattle.std.proofs.Common.{◌≡◌, length}
use Rattle.rtl_func.specs.Calls.{used_registers, are_distinct}
use Rattle.rtl_func.proofs.calls.uses_differ.Given as goal

abbrev pub invariant-loop-rest : goal.invariant-loop-rest
invariant-loop-rest l = are_distinct (used_registers l.rest) ≡ are_distinct (used_registers l.uses)

abbrev pub decreases-loop-rest : goal.decreases-loop-rest
decreases-loop-rest l = length l.rest
