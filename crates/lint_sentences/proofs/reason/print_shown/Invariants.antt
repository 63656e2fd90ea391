use Rattle.std.proofs.Common.{◌≡◌, ◌++◌, map, take}
use Rattle.lint_sentences.specs.Reason as spec
use Rattle.lint_sentences.proofs.reason.print_shown.Given as goal

abbrev pub invariant-loop-byte : goal.invariant-loop-byte
invariant-loop-byte l = l.out.items ≡ l.initial.out.items ++ map spec.shown_byte (take l.byte-index l.text)
