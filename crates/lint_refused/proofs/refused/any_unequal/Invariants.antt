use Rattle.std.proofs.Common.{◌≡◌, drop}
use Rattle.std.specs.List.{list_any}
use Rattle.lint_refused.specs.Refused as spec
use Rattle.lint_refused.proofs.refused.any_unequal.Given as goal

-- what is left has the answer
abbrev pub invariant-loop-one : goal.invariant-loop-one
invariant-loop-one l = list_any spec.is_unequal (drop l.one-index l.refused) ≡ list_any spec.is_unequal l.refused
