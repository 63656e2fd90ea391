use Rattle.std.proofs.Common.{◌≡◌, length}
use Rattle.md_text.specs.Lists.{before_blanks}
use Rattle.md_text.proofs.lists.before_blanks.Given as goal

abbrev pub invariant-loop-front : goal.invariant-loop-front
invariant-loop-front l = before_blanks l.front ≡ before_blanks l.text

abbrev pub decreases-loop-front : goal.decreases-loop-front
decreases-loop-front l = length l.front
