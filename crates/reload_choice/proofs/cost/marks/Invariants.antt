use Rattle.std.proofs.Common.{◌≡◌, take}
use Rattle.std.specs.List.{sum_by}
use Rattle.reload_choice.specs.Choice.{marks_at}
use Rattle.reload_choice.proofs.cost.marks.Given as goal

abbrev pub invariant-loop-k : goal.invariant-loop-k
invariant-loop-k l = l.total ≡ sum_by (marks_at l.alternative) (take l.k-index l.constraints)
