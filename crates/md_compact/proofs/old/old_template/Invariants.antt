use Rattle.std.proofs.Common.{◌≡◌, ◌∷◌, take, flat_map}
use Rattle.md_compact.proofs.old.old_template.Given as goal

abbrev pub invariant-loop-row : goal.invariant-loop-row
invariant-loop-row l = l.text.items ≡ 64 ∷ flat_map (λ r. 10 ∷ r.output) (take l.row-index l.row-items)
