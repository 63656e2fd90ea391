use Rattle.std.proofs.Common.{◌≡◌, ◌++◌, ◌-◌}
use Rattle.rtl_make.specs.Made as spec
use Rattle.rtl_make.proofs.pattern.push_settings.Given as goal

abbrev pub invariant-loop-k : goal.invariant-loop-k
invariant-loop-k l = l.out ++ spec.each_from spec.setting l.k (16 - l.k) ≡ l.fn.out ++ spec.each_from spec.setting 0 16
