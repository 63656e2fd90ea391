use Rattle.std.proofs.Common.{◌≡◌, take}
use Rattle.std.specs.List.{count_by}
use Rattle.reload_choice.specs.Choice.{is_base_move}
use Rattle.reload_choice.proofs.cost.base_count.Given as goal

abbrev pub invariant-loop-step : goal.invariant-loop-step
invariant-loop-step l = l.count ≡ count_by is_base_move (take l.step-index l.moves)
