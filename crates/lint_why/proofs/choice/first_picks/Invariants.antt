use Rattle.std.proofs.Common.{◌≡◌, map, take}
use Rattle.lint_why.specs.Choices.{first_pick}
use Rattle.lint_why.proofs.choice.first_picks.Given as goal

abbrev pub invariant-loop-own : goal.invariant-loop-own
invariant-loop-own l = l.picks ≡ map first_pick (take l.own-index l.candidates)
