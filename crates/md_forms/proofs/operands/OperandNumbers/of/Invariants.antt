use Rattle.std.proofs.Common.{◌≡◌, ℕ, drop}
use Rattle.std.specs.BTreeSet as set
use Rattle.std.specs.Ordering.{nat_cmp}
use Rattle.md_forms.specs.Checks.{has}
use Rattle.md_forms.proofs.operands.OperandNumbers.of.Given as goal

abbrev pub invariant-loop-at : goal.invariant-loop-at
invariant-loop-at l = (n : ℕ) → set.contains nat_cmp l.sorted n ≡ has (drop l.at l.fn.all) n
