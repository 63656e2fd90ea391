use Rattle.std.proofs.Common.{◌≡◌, drop}
use Rattle.rtl_func.specs.Calls.{used_registers}
use Rattle.rtl_func.specs.Paths.{has_place}
use Rattle.rtl_func.proofs.calls.uses_register.Given as goal

abbrev pub invariant-loop-arg : goal.invariant-loop-arg
invariant-loop-arg l = has_place (used_registers (drop l.arg-index l.uses)) l.reg ≡ has_place (used_registers l.uses) l.reg
