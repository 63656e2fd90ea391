use Rattle.std.proofs.Common.{◌≡◌, ℕ, drop}
use Rattle.std.specs.BTreeSet as set
use Rattle.std.specs.List.{list_any}
use Rattle.std.specs.Ordering.{nat_cmp}
use Rattle.md_forms.specs.Names.{is_assigned}
use Rattle.md_forms.proofs.names.assigned_by.Given as goal

abbrev pub invariant-loop-at : goal.invariant-loop-at
invariant-loop-at l = (n : ℕ) → set.contains nat_cmp l.numbers n ≡ list_any (is_assigned n) (drop l.at l.heads)
