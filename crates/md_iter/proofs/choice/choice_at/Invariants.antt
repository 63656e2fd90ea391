-- The choice is that of the values that are chosen with the rest's one at the remainder.
use Rattle.std.proofs.Common.{◌≡◌, ◌<◌, ◌++◌, drop, map, option_map, slice_get}
use Rattle.md_iter.specs.Choice.{chosen_of, choices, choice_count, lent}
use Rattle.md_iter.proofs.choice.choice_at.Given as goal

abbrev pub invariant-loop-iterator : goal.invariant-loop-iterator
invariant-loop-iterator l = record {
  block : l.block ≡ choice_count (lent (drop l.iterator-index l.used));
  at : l.at < l.block;
  found : option_map (λ rest. map chosen_of l.choices.items ++ rest) (slice_get (choices (lent (drop l.iterator-index l.used))) l.at) ≡ slice_get (choices (lent l.used)) l.fn.at;
}
