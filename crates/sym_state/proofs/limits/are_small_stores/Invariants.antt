use Rattle.std.proofs.Common.{◌≡◌, map, drop}
use Rattle.std.specs.List.{list_all}
use Rattle.sym_term.specs.Views.{store_of}
use Rattle.sym_state.specs.State as spec
use Rattle.sym_state.specs.Views as views
use Rattle.sym_state.proofs.limits.are_small_stores.Given as goal

abbrev pub invariant-loop-item : goal.invariant-loop-item
invariant-loop-item l = list_all spec.is_small_store (map store_of (drop l.item-index l.stores)) ≡ list_all spec.is_small_store (map store_of l.stores)
