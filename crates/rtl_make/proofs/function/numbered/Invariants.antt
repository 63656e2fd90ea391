use Rattle.std.proofs.Common.{◌≡◌, ◌+◌, length}
use Rattle.rtl_make.specs.Made as spec
use Rattle.rtl_make.proofs.function.numbered.Given as goal

abbrev pub invariant-loop-pattern : goal.invariant-loop-pattern
invariant-loop-pattern l = record {
  made : l.insns ≡ spec.numbered 1 l.yielded;
  number : l.uid ≡ 1 + length l.yielded;
}
