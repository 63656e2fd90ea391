use Rattle.std.proofs.Common.{◌≡◌, ◌++◌, drop}
use Rattle.std.specs.List.{enumerate_from, filter_map}
use Rattle.lint_aside.specs.Sake.{if_for}
use Rattle.lint_aside.proofs.sake.Sakes.others.Given as goal

abbrev pub invariant-loop-at : goal.invariant-loop-at
invariant-loop-at l = l.others ++ filter_map (if_for l.self l.to) (enumerate_from l.at (drop l.at l.all)) ≡ filter_map (if_for l.self l.to) (enumerate_from 0 l.all)
