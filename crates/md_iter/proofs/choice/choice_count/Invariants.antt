use Rattle.std.proofs.Common.{◌≡◌, ◌≤◌, ◌*◌, ◌^◌, ◌-◌, min, drop}
use Rattle.md_iter.specs.Choice as spec
use Rattle.md_iter.specs.Choice.{lent}
use Rattle.md_iter.proofs.choice.choice_count.Given as goal

abbrev pub invariant-loop-iterator : goal.invariant-loop-iterator
invariant-loop-iterator l = record {
  fits : l.count ≤ 2 ^ 64 - 1;
  product : min (l.count * spec.choice_count (lent (drop l.iterator-index l.used))) (2 ^ 64 - 1) ≡ min (spec.choice_count (lent l.used)) (2 ^ 64 - 1);
}
