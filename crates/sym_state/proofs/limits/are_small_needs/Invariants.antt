use Rattle.std.proofs.Common.{◌≡◌, map, drop}
use Rattle.std.specs.List.{list_all}
use Rattle.sym_state.specs.State as spec
use Rattle.sym_state.specs.Views as views
use Rattle.sym_state.proofs.limits.are_small_needs.Given as goal

abbrev pub invariant-loop-item : goal.invariant-loop-item
invariant-loop-item l = list_all (λ n. spec.is_small_need n.what) (map views.need_at_of (drop l.item-index l.needs)) ≡ list_all (λ n. spec.is_small_need n.what) (map views.need_at_of l.needs)
