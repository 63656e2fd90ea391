use Rattle.std.proofs.Common.{◌≡◌, map, take}
use Rattle.lint_why.specs.Choices.{first_picked}
use Rattle.lint_why.proofs.choice.all_picked.Given as goal

abbrev pub invariant-loop-own : goal.invariant-loop-own
invariant-loop-own l = l.picked ≡ map first_picked (take l.own-index l.candidates)
