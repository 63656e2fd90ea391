use Rattle.std.proofs.Common.{◌≡◌, drop}
use Rattle.std.specs.List.{list_any}
use Rattle.lint_tried.specs.Tried as spec
use Rattle.lint_tried.proofs.tried.is_among.Given as goal

-- what is left has the answer
abbrev pub invariant-loop-other : goal.invariant-loop-other
invariant-loop-other l = list_any (spec.is_like l.instance) (drop l.other-index l.tried) ≡ list_any (spec.is_like l.instance) l.tried
