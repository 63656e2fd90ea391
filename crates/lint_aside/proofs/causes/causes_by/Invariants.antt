use Rattle.std.proofs.Common.{◌≡◌, ◌++◌, map, drop}
use Rattle.std.specs.List.{enumerate_from}
use Rattle.lint_aside.specs.Causes.{cause_at}
use Rattle.lint_aside.proofs.causes.causes_by.Given as goal

abbrev pub invariant-loop-at : goal.invariant-loop-at
invariant-loop-at l = l.causes ++ map (cause_at l.sakes l.all) (enumerate_from l.at (drop l.at l.all)) ≡ map (cause_at l.sakes l.all) (enumerate_from 0 l.all)
