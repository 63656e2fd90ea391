use Rattle.std.proofs.Common.{◌≡◌, ◌-◌, ◌++◌, length, filter}
use Rattle.std.specs.List.{range_with_len}
use Rattle.lint_choices.specs.Edges as spec
use Rattle.lint_choices.proofs.edge.edges.Given as goal

abbrev pub invariant-loop-place : goal.invariant-loop-place
invariant-loop-place l = l.places ++ filter (spec.is_kept l.taken l.always) (range_with_len l.place (length l.taken - l.place)) ≡ spec.edges l.taken l.always
