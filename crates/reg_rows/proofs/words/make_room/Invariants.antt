-- No register was added.
use Rattle.std.proofs.Common.{◌≡◌, ℕ, ◌+◌, ◌-◌, length}
use Rattle.reg_rows.specs.Row.{has}
use Rattle.reg_rows.proofs.words.make_room.Given as goal

abbrev pub invariant-loop-words : goal.invariant-loop-words
invariant-loop-words l = (other : ℕ) → has l.words.items other ≡ has l.fn.words.items other

abbrev pub decreases-loop-words : goal.decreases-loop-words
decreases-loop-words l = l.word + 1 - length l.words.items
