use Rattle.std.proofs.Common.{◌≡◌, ◌++◌, drop}
use Rattle.std.specs.List.{enumerate_from, filter_map}
use Rattle.lint_aside.specs.Causes.{aside_at}
use Rattle.lint_aside.proofs.causes.all_aside.Given as goal

abbrev pub invariant-loop-at : goal.invariant-loop-at
invariant-loop-at l = l.all ++ filter_map (aside_at l.constants l.tables l.instances) (enumerate_from l.at (drop l.at l.forms)) ≡ filter_map (aside_at l.constants l.tables l.instances) (enumerate_from 0 l.forms)
