use Rattle.std.proofs.Common.{◌≡◌, map, drop}
use Rattle.std.specs.List.{list_all}
use Rattle.term_tree.specs.Small.{is_small}
use Rattle.sym_state.specs.Views as views
use Rattle.sym_state.proofs.limits.are_small_args.Given as goal

abbrev pub invariant-loop-item : goal.invariant-loop-item
invariant-loop-item l = list_all (λ a. is_small a.value) (map views.arg_of (drop l.item-index l.args)) ≡ list_all (λ a. is_small a.value) (map views.arg_of l.args)
