use Rattle.std.proofs.Common.{◌≡◌, ◌∷◌, ◌++◌, take, flat_map}
use Rattle.md_compact.specs.Old.{entry}
use Rattle.md_compact.proofs.old.print_further.Given as goal

abbrev pub invariant-loop-row : goal.invariant-loop-row
invariant-loop-row l = l.out.items ≡ l.initial.out.items ++ flat_map (λ row. 44 ∷ entry l.at row) (take l.row-index l.rows)
