use Rattle.std.proofs.Common.{◌≡◌, drop}
use Rattle.std.specs.List.{list_any}
use Rattle.md_iter.specs.Choice as spec
use Rattle.md_iter.specs.Choice.{lent}
use Rattle.md_iter.proofs.choice.has.Given as goal

abbrev pub invariant-loop-iterator : goal.invariant-loop-iterator
invariant-loop-iterator l = list_any (spec.is_iterator l.kind l.name) (lent (drop l.iterator-index l.used)) ≡ list_any (spec.is_iterator l.kind l.name) (lent l.used)
