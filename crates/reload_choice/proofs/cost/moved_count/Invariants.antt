use Rattle.std.proofs.Common.{◌≡◌, take}
use Rattle.std.specs.List.{count_by}
use Rattle.reload_moves.specs.declared.part.Part.{Part}
use Rattle.reload_choice.proofs.cost.moved_count.Given as goal

abbrev pub invariant-loop-p : goal.invariant-loop-p
invariant-loop-p l = l.count ≡ count_by (λ (p : Part). p.is_moved) (take l.p-index l.parts)
