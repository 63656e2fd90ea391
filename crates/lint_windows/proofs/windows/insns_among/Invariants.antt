use Rattle.std.proofs.Common.{◌≡◌, take}
use Rattle.md_desc.specs.md_recog.Recog.{window_of}
use Rattle.lint_windows.proofs.windows.insns_among.Given as goal

abbrev pub invariant-loop-pattern : goal.invariant-loop-pattern
invariant-loop-pattern l = l.insns ≡ window_of (take l.pattern-index l.patterns)
