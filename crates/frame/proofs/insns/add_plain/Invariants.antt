use Rattle.std.proofs.Common.{◌≡◌, ◌+◌, ◌++◌, take}
use Rattle.law_frame.specs.Frame.{plain_insns}
use Rattle.frame.proofs.insns.add_plain.Given as goal

abbrev pub invariant-loop-pattern : goal.invariant-loop-pattern
invariant-loop-pattern l = record {
  put : l.insns ≡ l.fn.insns ++ plain_insns l.fn.uid (take l.pattern-index l.patterns);
  number : l.next ≡ l.fn.uid + l.pattern-index;
}
