use Rattle.std.proofs.Common.{◌≡◌, map, drop}
use Rattle.std.specs.List.{list_all}
use Rattle.sym_state.specs.State as spec
use Rattle.sym_state.specs.Views as views
use Rattle.sym_state.proofs.limits.are_small_registers.Given as goal

abbrev pub invariant-loop-item : goal.invariant-loop-item
invariant-loop-item l = list_all (λ c. spec.is_small_value c.value) (map views.changed_of (drop l.item-index l.regs)) ≡ list_all (λ c. spec.is_small_value c.value) (map views.changed_of l.regs)
