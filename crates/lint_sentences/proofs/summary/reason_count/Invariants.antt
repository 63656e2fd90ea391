use Rattle.std.proofs.Common.{◌≡◌, ◌==◌, take}
use Rattle.std.specs.List.{count_by}
use Rattle.lint_sentences.proofs.summary.reason_count.Given as goal

abbrev pub invariant-loop-reason : goal.invariant-loop-reason
invariant-loop-reason l = l.count ≡ count_by (λ r. r == l.number) (take l.reason-index l.reasons)
