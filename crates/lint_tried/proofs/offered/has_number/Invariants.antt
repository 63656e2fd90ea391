use Rattle.std.proofs.Common.{◌≡◌, ◌==◌, drop}
use Rattle.std.specs.List.{list_any}
use Rattle.lint_tried.proofs.offered.has_number.Given as goal

-- what is left has the answer
abbrev pub invariant-loop-n : goal.invariant-loop-n
invariant-loop-n l = list_any (λ n. n == l.number) (drop l.n-index l.numbers) ≡ list_any (λ n. n == l.number) l.numbers
