use Rattle.std.proofs.Common.{◌≡◌, drop}
use Rattle.std.specs.List.{list_any}
use Rattle.lint_refused.specs.Told as spec
use Rattle.lint_refused.proofs.told.has_line.Given as goal

-- what is left has the answer
abbrev pub invariant-loop-other : goal.invariant-loop-other
invariant-loop-other l = list_any (spec.has_line l.line) (drop l.other-index l.told) ≡ list_any (spec.has_line l.line) l.told
