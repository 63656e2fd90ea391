use Rattle.std.proofs.Common.{◌≡◌, drop}
use Rattle.std.specs.List.{list_any}
use Rattle.lint_found.specs.Found as spec
use Rattle.lint_found.proofs.found.any_wrong.Given as goal

-- what is left has the answer
abbrev pub invariant-loop-finding : goal.invariant-loop-finding
invariant-loop-finding l = list_any spec.is_wrong (drop l.finding-index l.found) ≡ list_any spec.is_wrong l.found
