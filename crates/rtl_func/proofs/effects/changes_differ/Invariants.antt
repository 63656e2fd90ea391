use Rattle.std.proofs.Common.{◌≡◌, ℕ, drop}
use Rattle.std.specs.List.{filter_map}
use Rattle.std.specs.Ordering.{nat_cmp}
use Rattle.std.specs.BTreeSet as set
use Rattle.rtl_func.specs.Calls.{are_distinct}
use Rattle.rtl_func.specs.Effects.{changed_register}
use Rattle.rtl_func.specs.Paths.{has_place}
use Rattle.rtl_func.proofs.effects.changes_differ.Given as goal

abbrev pub invariant-loop-at : goal.invariant-loop-at
invariant-loop-at l = record {
  each : (reg : ℕ) → set.contains nat_cmp l.changed reg ≡ has_place (filter_map changed_register (drop l.at l.parts)) reg;
  differ : l.differ ≡ are_distinct (filter_map changed_register (drop l.at l.parts));
}
