use Rattle.std.proofs.Common.{◌≡◌, not, take, count_by}
use Rattle.md_recog.specs.Recog.{is_scratch}
use Rattle.md_window.proofs.window.count_insns.Given as goal

abbrev pub invariant-loop-pattern : goal.invariant-loop-pattern
invariant-loop-pattern l = l.count ≡ count_by (λ p. not (is_scratch p)) (take l.pattern-index l.patterns)
