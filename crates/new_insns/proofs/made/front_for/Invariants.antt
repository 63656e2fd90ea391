use Rattle.std.proofs.Common.{◌≡◌, ◌+◌, length}
use Rattle.new_insns.specs.machine.Front.{front_for}
use Rattle.new_insns.proofs.made.front_for.Given as goal

abbrev pub invariant-loop-pattern : goal.invariant-loop-pattern
invariant-loop-pattern l = record {
  made : l.insns ≡ front_for l.old l.fn.uid l.yielded;
  number : l.next ≡ l.fn.uid + length l.yielded;
}
