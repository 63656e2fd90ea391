use Rattle.std.proofs.Common.{◌≡◌, ◌++◌, ◌-◌}
use Rattle.rtl_make.specs.Made as spec
use Rattle.rtl_make.proofs.pattern.push_operations.Given as goal

abbrev pub invariant-loop : goal.invariant-loop
invariant-loop l = l.out ++ spec.operations l.x (l.number - l.counter) ≡ l.fn.out ++ spec.operations l.fn.number l.fn.number
