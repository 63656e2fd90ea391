use Rattle.std.proofs.Common.{◌≡◌, take}
use Rattle.std.specs.List.{count_by}
use Rattle.lint_sentences.specs.Kind.{is_kind}
use Rattle.lint_sentences.proofs.summary.kind_count.Given as goal

abbrev pub invariant-loop-other : goal.invariant-loop-other
invariant-loop-other l = l.count ≡ count_by (is_kind l.kind) (take l.other-index l.kinds)
