use Rattle.std.proofs.Common.{◌≡◌, ◌++◌, map, drop}
use Rattle.lint_tried.specs.Tried.{first_pick, first_picks}
use Rattle.lint_windows.proofs.windows.first_picks.Given as goal

abbrev pub invariant-loop-own : goal.invariant-loop-own
invariant-loop-own l = l.picks ++ map first_pick (drop l.own-index l.candidates) ≡ first_picks l.candidates
