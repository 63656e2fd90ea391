use Rattle.std.proofs.Common.{◌≡◌, ◌++◌, ◌-◌}
use Rattle.lint_sentences.specs.Summary as spec
use Rattle.lint_sentences.specs.Each.{each_from}
use Rattle.lint_sentences.proofs.summary.print_reasons.Given as goal

abbrev pub invariant-loop-number : goal.invariant-loop-number
invariant-loop-number l = l.out.items ++ each_from (spec.reason_text l.reasons) l.number (13 - l.number) ≡ l.fn.out.items ++ each_from (spec.reason_text l.reasons) 1 12
